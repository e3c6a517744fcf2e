-- pages and translations stay settled at a switch: its processor owes nothing in the space that it then runs in
use Rattle.std.specs.Prelude.{◌≡◌, ◌≢◌, ◌<◌, ℕ, ◌&&◌, not, if◌then◌else◌, Bool, true, false, ◌++◌, length, Option, Some, None}
use Rattle.std.proofs.Common.{refl, sym, ◌∙◌, subst, arith, ⊎_elim}
use Rattle.std.proofs.lemmas.Bool.{true≢false, eq-eqb, ne_eqb, cases_eq}
use Rattle.plat_base.specs.Machine.{Machine}
use Rattle.plat_base.specs.Pages.{page_of, space_of}
use Rattle.plat_base.specs.Held.{to_read, held, active, later, removes_all, removes_writes}
use Rattle.plat_base.specs.Coarse.{Coarse}
use Rattle.plat_base.specs.Messages.{by_other, owed_for, owed, switch_items}
use Rattle.plat_base.specs.declared.items.Removed.{Removed}
use Rattle.plat_base.specs.declared.items.Message.TheVariants as message
use Rattle.plat_base.specs.declared.items.Translation.{Translation}
use Rattle.plat_coarse_laws.specs.Sound.{IsPage, IsKept, IsSettled}
use Rattle.plat_coarse_laws.proofs.MessageLaws.{told_by, dir_of-switch_items, seq_of-switch_items, later-switch_items}
use Rattle.plat_coarse_laws.proofs.MessageLaws.{by_other-switch_items, held-switch_items, active-switch_items}
use Rattle.plat_coarse_laws.proofs.SettledLaws.{like_page, like_kept}

module _ (m : Machine) (s : Coarse) (q space : ℕ) (k : IsSettled m s) where
  abbrev switched : Coarse
  switched = record { history = s.history ++ switch_items m s.history q space; ends = s.ends }

  -- a translation of another processor
  switched-other : (r e : ℕ) (t : Translation) → r ≢ q → r < m.nodes → e < length m.entries → held m switched.history r e ≡ Some t →
      IsKept m switched r e t
  switched-other r e t d h l w =
      like_kept m s switched r e t (omega (arith, seq_of-switch_items m s.history q space (page_of m e)))
      (λ test _. later-switch_items m s.history q space test (page_of m e) t.seq)
      (λ test _. by_other-switch_items m s.history q space test r (page_of m e) t.seq)
      (λ v. v) (active-switch_items m s.history q space r ∙ rw (ne_eqb r q d) refl)
      (k.kept r e t h l (sym (held-switch_items m s.history q space r e l ∙ rw (ne_eqb r q d) refl) ∙ w))

  -- a translation of the processor itself that no message came to, where it owes nothing in the space that it now runs in
  switched-same : (e : ℕ) (t : Translation) → IsKept m s q e t →
      (space_of m e ≡ space → by_other removes_all s.history q (page_of m e) t.seq ≡ false) →
      (space_of m e ≡ space → t.restricted ≡ false → by_other removes_writes s.history q (page_of m e) t.seq ≡ false) →
      IsKept m switched q e t
  switched-same e t old all writes = record {
    frame = old.frame;
    below = omega (arith, old.below, seq_of-switch_items m s.history q space (page_of m e));
    own_all = λ h. other removes_all ∙ old.own_all (sym (after removes_all) ∙ h);
    own_writes = λ r h. other removes_writes ∙ old.own_writes r (sym (after removes_writes) ∙ h);
    marked_right = old.marked_right;
    marked_cause = λ h. other removes_writes ∙ old.marked_cause h;
    answered_all = λ v a. other removes_all ∙ all (here a);
    answered_writes = λ v a u. other removes_writes ∙ writes (here a) u;
  }
    where
      after : (test : Removed → Bool) → later test switched.history (page_of m e) t.seq ≡ later test s.history (page_of m e) t.seq
      after test = later-switch_items m s.history q space test (page_of m e) t.seq

      other : (test : Removed → Bool) → by_other test switched.history q (page_of m e) t.seq ≡ by_other test s.history q (page_of m e) t.seq
      other test = by_other-switch_items m s.history q space test q (page_of m e) t.seq

      here : active m switched.history q ≡ space_of m e → space_of m e ≡ space
      here a = sym a ∙ active-switch_items m s.history q space q ∙ rw (eq-eqb q q refl) refl

  -- one that a restrict came to
  switched-restricted : (e : ℕ) (t : Translation) → IsKept m s q e t → by_other removes_all s.history q (page_of m e) t.seq ≡ false →
      by_other removes_writes s.history q (page_of m e) t.seq ≡ true →
      IsKept m switched q e (record { grant = to_read t.grant; seq = t.seq; restricted = true })
  switched-restricted e t old all writes = record {
    frame = old.frame;
    below = omega (arith, old.below, seq_of-switch_items m s.history q space (page_of m e));
    own_all = λ h. other removes_all ∙ old.own_all (sym (later-switch_items m s.history q space removes_all (page_of m e) t.seq) ∙ h);
    own_writes = λ r h. absurd cc;
    marked_right = λ h. refl;
    marked_cause = λ h. other removes_writes ∙ writes;
    answered_all = λ v a. other removes_all ∙ all;
    answered_writes = λ v a u. absurd cc;
  }
    where
      other : (test : Removed → Bool) → by_other test switched.history q (page_of m e) t.seq ≡ by_other test s.history q (page_of m e) t.seq
      other test = by_other-switch_items m s.history q space test q (page_of m e) t.seq

  -- a translation of the processor itself, of an entry of the new space
  switched-here : (e : ℕ) (t : Translation) → q < m.nodes → e < length m.entries → told_by (owed m s.history q e) (held m s.history q e)
      ≡ Some t → IsKept m switched q e t
  switched-here e t h l w = by (held m s.history q e) refl w
    where
      at : (u : Translation) → IsKept m s q e u → (all marked writes : Bool) → by_other removes_all s.history q (page_of m e) u.seq ≡ all →
          u.restricted ≡ marked → by_other removes_writes s.history q (page_of m e) u.seq ≡ writes →
          told_by (if all then Some message.Invalidate else if not marked && writes then Some message.Restrict else None) (Some u)
          ≡ Some t → IsKept m switched q e t
      at u old true marked writes x y z w = absurd cc
      at u old false false true x y z w =
          let now : Translation = record { grant = to_read u.grant; seq = u.seq; restricted = true }
          in let same : now ≡ t = cc
          in subst (λ (v : Translation). IsKept m switched q e v) same (switched-restricted e u old x z)
      at u old false false false x y z w =
          let same : u ≡ t = cc in subst (λ (v : Translation). IsKept m switched q e v) same (switched-same e u old (λ _. x) (λ _ _. z))
      at u old false true writes x y z w =
          let same : u ≡ t = cc
          in subst (λ (v : Translation). IsKept m switched q e v) same
          (switched-same e u old (λ _. x) (λ _ unmarked. absurd (true≢false (sym y ∙ unmarked))))

      by : (u : Option Translation) → held m s.history q e ≡ u → told_by (owed_for s.history q (page_of m e) u) u ≡ Some t →
          IsKept m switched q e t
      by None i w = absurd cc
      by (Some u) i w =
          at u (k.kept q e u h l i) (by_other removes_all s.history q (page_of m e) u.seq) u.restricted
          (by_other removes_writes s.history q (page_of m e) u.seq) refl refl refl w

  switched-own : (e : ℕ) (t : Translation) → q < m.nodes → e < length m.entries → held m switched.history q e ≡ Some t →
      IsKept m switched q e t
  switched-own e t h l w = ⊎_elim here away (cases_eq (space_of m e) space)
    where
      here : space_of m e ≡ space → IsKept m switched q e t
      here same =
          switched-here e t h l
          (sym (held-switch_items m s.history q space q e l ∙ rw (eq-eqb q q refl, eq-eqb (space_of m e) space same) refl) ∙ w)

      away : space_of m e ≢ space → IsKept m switched q e t
      away d =
          switched-same e t
          (k.kept q e t h l (sym (held-switch_items m s.history q space q e l ∙ rw (eq-eqb q q refl, ne_eqb (space_of m e) space d) refl)
          ∙ w))
          (λ same. absurd (d same)) (λ same. absurd (d same))

  switched-kept : (r e : ℕ) (t : Translation) → r < m.nodes → e < length m.entries → held m switched.history r e ≡ Some t →
      IsKept m switched r e t
  switched-kept r e t h l w = ⊎_elim (λ same. at r (sym same) h w) (λ d. switched-other r e t d h l w) (cases_eq r q)
    where
      at : (r : ℕ) → q ≡ r → r < m.nodes → held m switched.history r e ≡ Some t → IsKept m switched r e t
      at r same =
          subst (λ (r : ℕ). r < m.nodes → held m switched.history r e ≡ Some t → IsKept m switched r e t) same
          (λ h w. switched-own e t h l w)

  switched-page : (p : ℕ) → p < m.pages → IsPage m switched.history p
  switched-page p l =
      like_page m s.history switched.history p (dir_of-switch_items m s.history q space p) (seq_of-switch_items m s.history q space p)
      (λ test g. later-switch_items m s.history q space test p g) (k.page p l)

-- a switch and the messages behind it
pub settled-switch : (m : Machine) (s : Coarse) (q space : ℕ) → IsSettled m s → q < m.nodes →
    IsSettled m (record { history = s.history ++ switch_items m s.history q space; ends = s.ends })
settled-switch m s q space k h = record { page = switched-page m s q space k; kept = switched-kept m s q space k }
