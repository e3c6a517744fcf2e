-- a processor without a session holds by the history what it has
use Rattle.std.specs.Prelude.{◌≡◌, ◌≢◌, ℕ, ◌<◌, ◌==◌, ◌&&◌, if◌then◌else◌, Bool, true, false, Option, Some, None, is_some}
use Rattle.std.proofs.Common.{refl, ap, sym, ◌∙◌, inl}
use Rattle.std.proofs.lemmas.Bool.{eqb-true}
use Rattle.plat_base.specs.Verdicts.{Answer}
use Rattle.plat_base.specs.Machine.{Machine}
use Rattle.plat_base.specs.Pages.{page_of}
use Rattle.plat_base.specs.Held.{held, serves, has_right}
use Rattle.plat_base.specs.declared.items.Right.{Right}
use Rattle.plat_base.specs.declared.items.Right.TheVariants as right
use Rattle.plat_base.specs.declared.items.Kind.{Kind}
use Rattle.plat_base.specs.declared.items.Kind.TheVariants as kind
use Rattle.plat_base.specs.declared.items.Translation.{Translation}
use Rattle.plat_events.specs.Places.{entry_count}
use Rattle.plat_events.specs.Standings.{has_granted}
use Rattle.plat_events.specs.Kept.{Running, session_on, session_of, private_of}
use Rattle.plat_events.specs.Views.{Another, Own, session_view, view, agrees, translation_of}
use Rattle.plat_events.specs.Runs.{Fine}
use Rattle.plat_events.specs.Shown.{Shows}
use Rattle.plat_fine_laws.proofs.SessionLaws.{runs_on-actor}

pub adds_as : (r : Right) → serves kind.Add r ≡ serves kind.Store r
adds_as right.Read = refl
adds_as right.Write = refl

-- the right for an access, by whether there is a translation and whether it has the right to write
same_right :
    (k : Kind) (x y : Option Translation) → is_some x ≡ is_some y → (is_some y ≡ true → has_right kind.Store x ≡ has_right kind.Store y) →
    has_right k x ≡ has_right k y
same_right k None None some writes = refl
same_right k None (Some y) some writes = absurd cc
same_right k (Some x) None some writes = absurd cc
same_right kind.Load (Some x) (Some y) some writes = refl
same_right kind.Store (Some x) (Some y) some writes = writes refl
same_right kind.Add (Some x) (Some y) some writes =
    adds_as x.grant.right ∙ (writes refl ∙ sym (adds_as y.grant.right))

module _ (m : Machine) (answer : Answer) (s : Fine) (q e : ℕ) (shows : Shows m answer s) (inside : q < m.nodes) (below : e < entry_count m)
    (free : session_of (private_of m s q).place ≡ None) where
  not-own : (r : Running) → session_on s.privates (page_of m e) ≡ Some r → (r.actor == q) ≡ true → ⊥
  not-own r on same =
      let runs = runs_on-actor m answer s (page_of m e) r shows on in
      let actor : r.actor ≡ q = eqb-true r.actor q same in
      let has : session_of (private_of m s q).place ≡ Some r.session =
      ap (λ a. session_of (private_of m s a).place) (sym actor) ∙ runs.session in
      absurd cc

  pub not_own : (view m answer s q e).whose ≢ Own
  not_own = by (session_on s.privates (page_of m e)) refl
    where
      other : (r : Running) → session_on s.privates (page_of m e) ≡ Some r → (b : Bool) → (r.actor == q) ≡ b →
          (if b then Own else Another) ≢ Own
      other r on true same = absurd (not-own r on same)
      other r on false same = λ h. absurd cc

      by : (o : Option Running) → session_on s.privates (page_of m e) ≡ o →
          (session_view m answer q e (translation_of m s q e) o).whose ≢ Own
      by None on = λ h. absurd cc
      by (Some r) on = other r on (r.actor == q) refl

  pub not_granted : (view m answer s q e).granted ≡ false
  not_granted = by (session_on s.privates (page_of m e)) refl
    where
      other : (r : Running) → session_on s.privates (page_of m e) ≡ Some r → (b : Bool) → (r.actor == q) ≡ b →
          (b && has_granted r.session e) ≡ false
      other r on true same = absurd (not-own r on same)
      other r on false same = refl

      by : (o : Option Running) → session_on s.privates (page_of m e) ≡ o →
          (session_view m answer q e (translation_of m s q e) o).granted ≡ false
      by None on = refl
      by (Some r) on = other r on (r.actor == q) refl

  pub held-has : is_some (held m s.history q e) ≡ is_some (translation_of m s q e)
  held-has = (shows.held_is_pmap q e inside below).plain_has (inl not_own) not_granted

  pub held-right : (k : Kind) → has_right k (held m s.history q e) ≡ has_right k (translation_of m s q e)
  held-right k =
      same_right k (held m s.history q e) (translation_of m s q e) held-has
      ((shows.held_is_pmap q e inside below).plain_writes (inl not_own) not_granted)

  pub held-agrees : is_some (translation_of m s q e) ≡ true → agrees (translation_of m s q e) (held m s.history q e) ≡ true
  held-agrees has = (shows.held_is_pmap q e inside below).plain_same (inl not_own) not_granted has
