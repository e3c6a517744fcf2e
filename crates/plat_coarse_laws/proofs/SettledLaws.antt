-- pages and translations between turns stay settled: at an access, at an end, at a change behind its messages, at a switch
use Rattle.std.specs.Prelude.{◌≡◌, ◌≢◌, ◌≤◌, ◌<◌, ℕ, ◌+◌, ◌==◌, nat_lt, ◌&&◌, ◌||◌, not, if◌then◌else◌, Bool, true, false, List, [], ◌∷◌}
use Rattle.std.specs.Prelude.{◌++◌, length, Option, Some, None, is_some}
use Rattle.std.proofs.Common.{refl, ap, sym, ◌∙◌, subst, arith, ⊎_elim}
use Rattle.std.proofs.lemmas.Bool.{true≢false, false_from_ne_true, or_right, and_parts, cases_lt, cases_eq, eq-eqb, eqb-true, ne_eqb}
use Rattle.std.proofs.lemmas.Bool.{lt-ltb, le-ltb}
use Rattle.std.proofs.lemmas.Bool.Decides.{nat_tests}
use Rattle.plat_base.specs.Machine.{Machine}
use Rattle.plat_base.specs.Pages.{page_of, space_of}
use Rattle.plat_base.specs.Directories.{dir_of, seq_of}
use Rattle.plat_base.specs.Held.{to_read, kept_of, told, granted_to, held, active, is_later_change, later, removes_all, removes_writes}
use Rattle.plat_base.specs.Ends.{is_live}
use Rattle.plat_base.specs.Coarse.{Coarse}
use Rattle.plat_base.specs.Messages.{is_owed_for, by_other, message_of, removes_some, is_target}
use Rattle.plat_base.specs.Rules.{may_apply}
use Rattle.plat_base.specs.declared.frames.State.TheVariants as state
use Rattle.plat_base.specs.declared.items.Right.TheVariants as right
use Rattle.plat_base.specs.declared.items.Removed.{Removed}
use Rattle.plat_base.specs.declared.items.Removed.TheVariants as removed
use Rattle.plat_base.specs.declared.items.Grant.{Grant}
use Rattle.plat_base.specs.declared.items.Translation.{Translation}
use Rattle.plat_base.specs.declared.items.Access.{Access}
use Rattle.plat_base.specs.declared.items.Change.{Change}
use Rattle.plat_base.specs.declared.items.Item.{Item}
use Rattle.plat_base.specs.declared.items.Item.TheVariants as item
use Rattle.plat_base.specs.declared.endings.Ended.{Ended}
use Rattle.plat_coarse_laws.specs.Sound.{IsPage, IsKept, IsSettled, IsNextChange}
use Rattle.plat_laws.proofs.ItemLaws.{dir_of-access, seq_of-access, held-access, active-access, later-access, by_other-access}
use Rattle.plat_coarse_laws.proofs.MessageLaws.{hit, posted, IsTarget, is_target-parts, dir_of-posted_own, dir_of-posted_other}
use Rattle.plat_coarse_laws.proofs.MessageLaws.{seq_of-posted_own, seq_of-posted_other, later-posted, later-posted_other, by_other-posted}
use Rattle.plat_coarse_laws.proofs.MessageLaws.{by_other-posted_other, active-posted, held-posted_own, held-posted_other}

-- a change by another actor is a later change
owed_for-later : (test : Removed → Bool) (q page seq : ℕ) (i : Item) → is_owed_for test q page seq i ≡ true →
    is_later_change test page seq i ≡ true
owed_for-later test q page seq (item.Access a) h = absurd cc
owed_for-later test q page seq (item.Change c) h = grind (arith, nat_tests)
owed_for-later test q page seq (item.Applied x) h = absurd cc
owed_for-later test q page seq (item.Switch s) h = absurd cc

pub by_other-later : (test : Removed → Bool) (items : List Item) (q page seq : ℕ) → by_other test items q page seq ≡ true →
    later test items page seq ≡ true
by_other-later test [] q page seq h = absurd cc
by_other-later test (i ∷ is) q page seq h =
    grind (arith, nat_tests, owed_for-later test q page seq i, by_other-later test is q page seq)

pub by_other-none : (test : Removed → Bool) (items : List Item) (q page seq : ℕ) → later test items page seq ≡ false →
    by_other test items q page seq ≡ false
by_other-none test items q page seq h =
    false_from_ne_true (by_other test items q page seq) (λ k. true≢false (sym (by_other-later test items q page seq k) ∙ h))

-- ---- what reads the same is kept

pub like_page :
    (m : Machine) (xs ys : List Item) (p : ℕ) → dir_of ys p ≡ dir_of xs p → seq_of ys p ≡ seq_of xs p
    → ((test : Removed → Bool) (g : ℕ) → later test ys p g ≡ later test xs p g) → IsPage m xs p → IsPage m ys p
like_page m xs ys p d n t k = record {
  dir = rw d k.dir;
  numbers_all = λ g h. t removes_all g ∙ k.numbers_all g (rw n at h);
  numbers_writes = λ g h. t removes_writes g ∙ k.numbers_writes g (rw n at h);
  writes = λ g h l. rw d (k.writes g (sym (t removes_writes g) ∙ h) (sym (t removes_all g) ∙ l));
}

pub like_kept :
    (m : Machine) (s z : Coarse) (q e : ℕ) (t : Translation) → seq_of s.history (page_of m e) ≤ seq_of z.history (page_of m e)
    → ((test : Removed → Bool) → test removed.Nothing ≡ false → later test z.history (page_of m e) t.seq
    ≡ later test s.history (page_of m e) t.seq)
    → ((test : Removed → Bool) → test removed.Nothing ≡ false → by_other test z.history q (page_of m e) t.seq
    ≡ by_other test s.history q (page_of m e) t.seq)
    → (is_live z.ends q ≡ true → is_live s.ends q ≡ true) → active m z.history q ≡ active m s.history q
    → IsKept m s q e t → IsKept m z q e t
like_kept m s z q e t n l o v a k = record {
  frame = k.frame;
  below = omega (arith, k.below);
  own_all = λ h. o removes_all refl ∙ k.own_all (sym (l removes_all refl) ∙ h);
  own_writes = λ r h. o removes_writes refl ∙ k.own_writes r (sym (l removes_writes refl) ∙ h);
  marked_right = k.marked_right;
  marked_cause = λ h. o removes_writes refl ∙ k.marked_cause h;
  answered_all = λ h i. o removes_all refl ∙ k.answered_all (v h) (sym a ∙ i);
  answered_writes = λ h i r. o removes_writes refl ∙ k.answered_writes (v h) (sym a ∙ i) r;
}

-- ---- one more access, other ends, and the start

pub settled-access : (m : Machine) (s : Coarse) (a : Access) → IsSettled m s →
    IsSettled m (record { history = s.history ++ item.Access a ∷ []; ends = s.ends })
settled-access m s a k = record {
  page = λ p h.
      like_page m s.history (s.history ++ item.Access a ∷ []) p (dir_of-access s.history a p) (seq_of-access s.history a p)
      (λ test g. later-access test s.history a p g) (k.page p h);
  kept = λ q e t h l w.
      like_kept m s (record { history = s.history ++ item.Access a ∷ []; ends = s.ends }) q e t
      (omega (arith, seq_of-access s.history a (page_of m e)))
      (λ test _. later-access test s.history a (page_of m e) t.seq) (λ test _. by_other-access test s.history a q (page_of m e) t.seq)
      (λ v. v) (active-access m s.history a q) (k.kept q e t h l (sym (held-access m s.history a q e) ∙ w));
}

pub settled-ends : (m : Machine) (s : Coarse) (ends : List Ended) → ((q : ℕ) → is_live ends q ≡ true → is_live s.ends q ≡ true) →
    IsSettled m s → IsSettled m (record { history = s.history; ends = ends })
settled-ends m s ends v k = record {
  page = k.page;
  kept = λ q e t h l w.
      like_kept m s (record { history = s.history; ends = ends }) q e t (omega arith) (λ test _. refl) (λ test _. refl) (v q) refl
      (k.kept q e t h l w);
}

pub settled-start : (m : Machine) (ends : List Ended) → IsSettled m (record { history = []; ends = ends })
settled-start m ends = record {
  page = λ p h. record {
    dir = refl;
    numbers_all = λ g l. refl;
    numbers_writes = λ g l. refl;
    writes = λ g l n. absurd cc;
  };
  kept = λ q e t h l w. absurd cc;
}

-- ---- what holds of a translation that a live processor holds in the space that it runs in

-- nothing of it was removed since
pub settled-hit : (m : Machine) (s : Coarse) (q e : ℕ) (t : Translation) → IsSettled m s → is_live s.ends q ≡ true → q < m.nodes →
    e < length m.entries → active m s.history q ≡ space_of m e → held m s.history q e ≡ Some t →
    (later removes_all s.history (page_of m e) t.seq ≡ false)
    × (t.grant.right ≡ right.Write → later removes_writes s.history (page_of m e) t.seq ≡ false)
settled-hit m s q e t k v h l a w = (no_all, no_writes)
  where
    kept : IsKept m s q e t
    kept = k.kept q e t h l w

    unmarked : t.grant.right ≡ right.Write → t.restricted ≡ false
    unmarked r = false_from_ne_true t.restricted (λ marked. let read : t.grant.right ≡ right.Read = kept.marked_right marked in absurd cc)

    no_all : later removes_all s.history (page_of m e) t.seq ≡ false
    no_all =
        false_from_ne_true (later removes_all s.history (page_of m e) t.seq) (λ x.
        true≢false (sym (kept.own_all x) ∙ kept.answered_all v a))

    no_writes : t.grant.right ≡ right.Write → later removes_writes s.history (page_of m e) t.seq ≡ false
    no_writes r =
        false_from_ne_true (later removes_writes s.history (page_of m e) t.seq) (λ x.
        true≢false (sym (kept.own_writes r x) ∙ kept.answered_writes v a (unmarked r)))

-- ---- the fresh grant of a change

module _ (m : Machine) (s : Coarse) (c : Change) where
  fresh : (test : Removed → Bool) → ((g : ℕ) → seq_of s.history c.page ≤ g + 1 → later test s.history c.page g ≡ false) →
      c.seq ≡ seq_of s.history c.page → later test (posted m s c) c.page c.seq ≡ false
  fresh test none n =
      let before : later test s.history c.page c.seq ≡ false = none c.seq (omega arith)
      in later-posted m s c test c.page c.seq ∙ rw (before, le-ltb c.seq c.seq (omega arith), eq-eqb c.page c.page refl) refl

  granted-held : (g : Grant) → c.granted ≡ Some g → held m (posted m s c) c.actor g.entry
      ≡ Some (record { grant = g; seq = c.seq; restricted = false })
  granted-held g h = held-posted_own m s c g.entry ∙ rw (h, eq-eqb g.entry g.entry refl) refl

  -- nothing is later than a fresh grant
  pub settled-granted : IsSettled m s → IsNextChange m s.history c → (g : Grant) → c.granted ≡ Some g →
      (held m (posted m s c) c.actor g.entry ≡ Some (record { grant = g; seq = c.seq; restricted = false }))
      × (later removes_all (posted m s c) c.page c.seq ≡ false) × (later removes_writes (posted m s c) c.page c.seq ≡ false)
  settled-granted k n g h =
      let page = k.page c.page n.page
      in (granted-held g h, fresh removes_all page.numbers_all n.seq, fresh removes_writes page.numbers_writes n.seq)

-- ---- each message before a change finds its translation

module _ (m : Machine) (s : Coarse) (k : IsSettled m s) (e r : ℕ) (t : Translation) (w : held m s.history r e ≡ Some t) (h : r < m.nodes)
    (l : e < length m.entries) where
  -- a marked translation that owes no invalidate is of a page that is present+
  marked_plus : page_of m e < m.pages → t.restricted ≡ true → by_other removes_all s.history r (page_of m e) t.seq ≡ false →
      (dir_of s.history (page_of m e)).state ≡ state.PresentPlus
  marked_plus p marked o =
      let kept = k.kept r e t h l w
      in (k.page (page_of m e) p).writes t.seq (by_other-later removes_writes s.history r (page_of m e) t.seq (kept.marked_cause marked))
      (false_from_ne_true (later removes_all s.history (page_of m e) t.seq) (λ x. true≢false (sym (kept.own_all x) ∙ o)))

  restrict-unmarked : page_of m e < m.pages → is_live s.ends r ≡ true → active m s.history r ≡ space_of m e →
      (dir_of s.history (page_of m e)).state ≡ state.Modified → not t.restricted ≡ true
  restrict-unmarked p v a modified =
      let kept = k.kept r e t h l w
      in let unmarked : t.restricted ≡ false =
      false_from_ne_true t.restricted (λ marked. let plus = marked_plus p marked (kept.answered_all v a) in absurd cc)
      in rw unmarked refl

-- what it is that a message told
record IsHit (m : Machine) (s : Coarse) (c : Change) (r e : ℕ) : Type 0 where
  some : removes_some c.removed ≡ true
  of_page : page_of m e ≡ c.page
  target : IsTarget m s c.actor e r

hit-parts : (m : Machine) (s : Coarse) (c : Change) (r e : ℕ) → hit m s c.actor c.page c.removed r e ≡ true → IsHit m s c r e
hit-parts m s c r e h =
    let first = and_parts (removes_some c.removed && page_of m e == c.page && nat_lt r m.nodes) (is_target m s c.actor e r) h
    in let second = and_parts (removes_some c.removed && page_of m e == c.page) (nat_lt r m.nodes) first.0
    in let third = and_parts (removes_some c.removed) (page_of m e == c.page) second.0
    in record {
      some = third.0;
      of_page = eqb-true (page_of m e) c.page third.1;
      target = is_target-parts m s c.actor e r first.1;
    }

-- a restrict finds a translation with no mark: a marked one that owes nothing is of a page that is present+, not modified
pub settled-may_apply : (m : Machine) (s : Coarse) (c : Change) → IsSettled m s → IsNextChange m s.history c → (r e : ℕ) → r < m.nodes →
    e < length m.entries → hit m s c.actor c.page c.removed r e ≡ true → may_apply (message_of c.removed) (held m s.history r e) ≡ true
settled-may_apply m s c k n r e h l x = by c.removed refl (held m s.history r e) refl
  where
    is_hit : IsHit m s c r e
    is_hit = hit-parts m s c r e x

    page : page_of m e < m.pages
    page = rw is_hit.of_page n.page

    by : (rem : Removed) → c.removed ≡ rem → (t : Option Translation) → held m s.history r e ≡ t → may_apply (message_of rem) t ≡ true
    by removed.Nothing was t w = absurd (true≢false (sym is_hit.some ∙ ap removes_some was))
    by removed.Writes was None w = absurd (true≢false (sym is_hit.target.holds ∙ ap is_some w))
    by removed.Writes was (Some t) w =
        restrict-unmarked m s k e r t w h l page is_hit.target.live is_hit.target.here (rw is_hit.of_page (n.writes_before was))
    by removed.All was None w = absurd (true≢false (sym is_hit.target.holds ∙ ap is_some w))
    by removed.All was (Some t) w = refl

-- ---- the tests of the page of a change behind its messages

-- the state with a change and the messages before it
abbrev pub with_change : Machine → Coarse → Change → Coarse
with_change m s c = record { history = posted m s c; ends = s.ends }

module _ (m : Machine) (s : Coarse) (c : Change) (test : Removed → Bool) (p g : ℕ) (o : p ≡ c.page) where
  later_now : later test (posted m s c) p g ≡ (later test s.history p g || (nat_lt g c.seq && test c.removed))
  later_now = later-posted m s c test p g ∙ rw (eq-eqb c.page p (sym o)) refl

  later_same : test c.removed ≡ false → later test (posted m s c) p g ≡ later test s.history p g
  later_same h = later_now ∙ unchanged (later test s.history p g) (nat_lt g c.seq) (test c.removed) h
    where
      unchanged : (a b d : Bool) → d ≡ false → (a || (b && d)) ≡ a
      unchanged true b d h = refl
      unchanged false true d h = h
      unchanged false false d h = refl

  later_made : test c.removed ≡ true → g < c.seq → later test (posted m s c) p g ≡ true
  later_made h l = later_now ∙ rw (lt-ltb g c.seq l, h) (or_right (later test s.history p g) true refl)

  other_now : (q : ℕ) → by_other test (posted m s c) q p g
      ≡ (by_other test s.history q p g || (nat_lt g c.seq && test c.removed && not (c.actor == q)))
  other_now q = by_other-posted m s c test q p g ∙ rw (eq-eqb c.page p (sym o)) refl

  other_same : (q : ℕ) → test c.removed ≡ false → by_other test (posted m s c) q p g ≡ by_other test s.history q p g
  other_same q h = other_now q ∙ unchanged (by_other test s.history q p g) (nat_lt g c.seq) (test c.removed) (not (c.actor == q)) h
    where
      unchanged : (a b d f : Bool) → d ≡ false → (a || (b && d && f)) ≡ a
      unchanged true b d f h = refl
      unchanged false true d f h = rw h refl
      unchanged false false d f h = refl

  -- a change is by no other for its own actor
  other_own : (q : ℕ) → c.actor ≡ q → by_other test (posted m s c) q p g ≡ by_other test s.history q p g
  other_own q h = other_now q ∙ rw (eq-eqb c.actor q h) (unchanged (by_other test s.history q p g) (nat_lt g c.seq && test c.removed))
    where
      unchanged : (a b : Bool) → (a || (b && false)) ≡ a
      unchanged true b = refl
      unchanged false true = refl
      unchanged false false = refl

  other_made : (q : ℕ) → c.actor ≢ q → test c.removed ≡ true → g < c.seq → by_other test (posted m s c) q p g ≡ true
  other_made q d h l =
      other_now q ∙ rw (lt-ltb g c.seq l, h, ne_eqb c.actor q d) (or_right (by_other test s.history q p g) true refl)

  -- what was stays
  other_more : (q : ℕ) → by_other test s.history q p g ≡ true → by_other test (posted m s c) q p g ≡ true
  other_more q h = other_now q ∙ rw h refl

-- ---- pages at a change behind its messages

module _ (m : Machine) (s : Coarse) (c : Change) (k : IsSettled m s) (n : IsNextChange m s.history c) where
  posted-page_other : (p : ℕ) → p < m.pages → c.page ≢ p → IsPage m (posted m s c) p
  posted-page_other p l d =
      like_page m s.history (posted m s c) p (dir_of-posted_other m s c p d) (seq_of-posted_other m s c p d)
      (λ test g. later-posted_other m s c test p g d) (k.page p l)

  own_page : IsPage m s.history c.page
  own_page = k.page c.page n.page

  numbers_now : (test : Removed → Bool) → ((g : ℕ) → seq_of s.history c.page ≤ g + 1 → later test s.history c.page g ≡ false) → (g : ℕ) →
      seq_of s.history c.page + 1 ≤ g + 1 → later test (posted m s c) c.page g ≡ false
  numbers_now test none g h =
      let was : later test s.history c.page g ≡ false = none g (omega arith)
      in let same : c.seq ≡ seq_of s.history c.page = n.seq
      in later_now m s c test c.page g refl ∙ rw (was, le-ltb g c.seq (omega arith)) refl

  -- writes were removed and not all since: the page is present+ after the change
  plus_now : (g : ℕ) → later removes_writes (posted m s c) c.page g ≡ true → later removes_all (posted m s c) c.page g ≡ false →
      c.after.state ≡ state.PresentPlus
  plus_now g h l = by c.removed refl
    where
      not_below : c.removed ≡ removed.All → g < c.seq → ⊥
      not_below x b = true≢false (sym (later_made m s c removes_all c.page g refl (ap removes_all x) b) ∙ l)

      writes_before : removes_writes c.removed ≡ false → later removes_writes s.history c.page g ≡ true
      writes_before x = sym (later_same m s c removes_writes c.page g refl x) ∙ h

      all_before : removes_all c.removed ≡ false → later removes_all s.history c.page g ≡ false
      all_before x = sym (later_same m s c removes_all c.page g refl x) ∙ l

      by : (rem : Removed) → c.removed ≡ rem → c.after.state ≡ state.PresentPlus
      by removed.Nothing x =
          n.stays (own_page.writes g (writes_before (ap removes_writes x)) (all_before (ap removes_all x))) (λ y. absurd cc)
      by removed.Writes x = n.writes_after x
      by removed.All x =
          let same : c.seq ≡ seq_of s.history c.page = n.seq
          in let above : c.seq ≤ g = ⊎_elim (λ b. absurd (not_below x b)) (λ b. b) (cases_lt g c.seq)
          in absurd (true≢false (sym (writes_before (ap removes_writes x)) ∙ own_page.numbers_writes g (omega arith)))

  posted-page_own : IsPage m (posted m s c) c.page
  posted-page_own = record {
    dir = rw (dir_of-posted_own m s c) n.after;
    numbers_all = λ g h. numbers_now removes_all own_page.numbers_all g (rw (seq_of-posted_own m s c) at h);
    numbers_writes = λ g h. numbers_now removes_writes own_page.numbers_writes g (rw (seq_of-posted_own m s c) at h);
    writes = λ g h l. rw (dir_of-posted_own m s c) (plus_now g h l);
  }

  posted-page : (p : ℕ) → p < m.pages → IsPage m (posted m s c) p
  posted-page p l =
      ⊎_elim (λ same. subst (λ (x : ℕ). IsPage m (posted m s c) x) same posted-page_own) (posted-page_other p l) (cases_eq c.page p)

-- ---- translations at a change behind its messages

not_hit : (m : Machine) (s : Coarse) (c : Change) (r e : ℕ) → page_of m e ≢ c.page → hit m s c.actor c.page c.removed r e ≡ false
not_hit m s c r e d = false_from_ne_true (hit m s c.actor c.page c.removed r e) (λ x. d (hit-parts m s c r e x).of_page)

module _ (m : Machine) (s : Coarse) (c : Change) (k : IsSettled m s) (n : IsNextChange m s.history c) where
  not_granted : (e : ℕ) (granted : Option Grant) (t : Option Translation) → c.granted ≡ granted → page_of m e ≢ c.page →
      granted_to e c.seq granted t ≡ t
  not_granted e None t x d = refl
  not_granted e (Some g) t x d =
      rw (ne_eqb g.entry e (λ same. d (ap (page_of m) (sym same) ∙ n.granted_page g x))) refl

  posted-held_other : (q e : ℕ) → e < length m.entries → page_of m e ≢ c.page → held m (posted m s c) q e ≡ held m s.history q e
  posted-held_other q e l d = ⊎_elim own other (cases_eq q c.actor)
    where
      own : q ≡ c.actor → held m (posted m s c) q e ≡ held m s.history q e
      own same =
          rw same
          (held-posted_own m s c e
          ∙ rw (ne_eqb (page_of m e) c.page d) (not_granted e c.granted (held m s.history c.actor e) refl d))

      other : q ≢ c.actor → held m (posted m s c) q e ≡ held m s.history q e
      other x = held-posted_other m s c q e x l ∙ rw (not_hit m s c q e d) refl

  posted-kept_other : (q e : ℕ) (t : Translation) → q < m.nodes → e < length m.entries → page_of m e ≢ c.page →
      held m (posted m s c) q e ≡ Some t → IsKept m (with_change m s c) q e t
  posted-kept_other q e t h l d w =
      let apart : c.page ≢ page_of m e = λ x. d (sym x)
      in like_kept m s (with_change m s c) q e t (omega (arith, seq_of-posted_other m s c (page_of m e) apart))
      (λ test _. later-posted_other m s c test (page_of m e) t.seq apart)
      (λ test _. by_other-posted_other m s c test q (page_of m e) t.seq apart)
      (λ v. v) (active-posted m s c q) (k.kept q e t h l (sym (posted-held_other q e l d) ∙ w))

  -- of the change's own page: the fresh grant

  fresh_kept : (g : Grant) → c.granted ≡ Some g →
      IsKept m (with_change m s c) c.actor g.entry (record { grant = g; seq = c.seq; restricted = false })
  fresh_kept g x =
      let o : page_of m g.entry ≡ c.page = n.granted_page g x
      in let r = settled-granted m s c k n g x
      in record {
        frame = n.granted_frame g x;
        below = rw (o, seq_of-posted_own m s c, n.seq) (omega arith);
        own_all = λ h. absurd (true≢false (sym h ∙ rw o r.1));
        own_writes = λ w h. absurd (true≢false (sym h ∙ rw o r.2));
        marked_right = λ h. absurd cc;
        marked_cause = λ h. absurd cc;
        answered_all = λ v a. by_other-none removes_all (posted m s c) c.actor (page_of m g.entry) c.seq (rw o r.1);
        answered_writes = λ v a u. by_other-none removes_writes (posted m s c) c.actor (page_of m g.entry) c.seq (rw o r.2);
      }

-- a translation t of the change's page that was held before

module _ (m : Machine) (s : Coarse) (c : Change) (n : IsNextChange m s.history c) (q e : ℕ) (t : Translation) (o : page_of m e ≡ c.page)
    (k : IsKept m s q e t) where
  no_fewer : seq_of s.history (page_of m e) ≤ seq_of (posted m s c) (page_of m e)
  no_fewer = rw (o, seq_of-posted_own m s c) (omega arith)

  still_below : t.seq < seq_of (posted m s c) (page_of m e)
  still_below = omega (arith, k.below, no_fewer)

  older : t.seq < c.seq
  older = rw n.seq (rw o at k.below)

  own_all_same : removes_all c.removed ≡ false → later removes_all (posted m s c) (page_of m e) t.seq ≡ true →
      by_other removes_all (posted m s c) q (page_of m e) t.seq ≡ true
  own_all_same x h =
      other_same m s c removes_all (page_of m e) t.seq o q x
      ∙ k.own_all (sym (later_same m s c removes_all (page_of m e) t.seq o x) ∙ h)

  answered_all_same : removes_all c.removed ≡ false → is_live s.ends q ≡ true → active m (posted m s c) q ≡ space_of m e →
      by_other removes_all (posted m s c) q (page_of m e) t.seq ≡ false
  answered_all_same x v a =
      other_same m s c removes_all (page_of m e) t.seq o q x ∙ k.answered_all v (sym (active-posted m s c q) ∙ a)

  marked_cause_more : t.restricted ≡ true → by_other removes_writes (posted m s c) q (page_of m e) t.seq ≡ true
  marked_cause_more h = other_more m s c removes_writes (page_of m e) t.seq o q (k.marked_cause h)

  -- nothing was removed
  nothing_kept : c.removed ≡ removed.Nothing → IsKept m (with_change m s c) q e t
  nothing_kept x =
      like_kept m s (with_change m s c) q e t no_fewer
      (λ test f. later_same m s c test (page_of m e) t.seq o (ap test x ∙ f))
      (λ test f. other_same m s c test (page_of m e) t.seq o q (ap test x ∙ f))
      (λ v. v) (active-posted m s c q) k

  -- writes were removed by its processor itself
  lowered_kept : c.removed ≡ removed.Writes → c.actor ≡ q →
      IsKept m (with_change m s c) q e (record { grant = to_read t.grant; seq = t.seq; restricted = t.restricted })
  lowered_kept x a = record {
    frame = k.frame;
    below = still_below;
    own_all = own_all_same (ap removes_all x);
    own_writes = λ r h. absurd cc;
    marked_right = λ h. refl;
    marked_cause = marked_cause_more;
    answered_all = answered_all_same (ap removes_all x);
    answered_writes = λ v i u.
        other_own m s c removes_writes (page_of m e) t.seq o q a ∙ k.answered_writes v (sym (active-posted m s c q) ∙ i) u;
  }

  -- writes were removed, and a message told so
  told_kept : c.removed ≡ removed.Writes → c.actor ≢ q →
      IsKept m (with_change m s c) q e (record { grant = to_read t.grant; seq = t.seq; restricted = true })
  told_kept x d = record {
    frame = k.frame;
    below = still_below;
    own_all = own_all_same (ap removes_all x);
    own_writes = λ r h. absurd cc;
    marked_right = λ h. refl;
    marked_cause = λ h. other_made m s c removes_writes (page_of m e) t.seq o q d (ap removes_writes x) older;
    answered_all = answered_all_same (ap removes_all x);
    answered_writes = λ v a u. absurd cc;
  }

  -- no message told of what was removed
  module _ (d : c.actor ≢ q) (away : is_live s.ends q ≡ true → active m s.history q ≡ space_of m e → ⊥) where
    still_away : is_live s.ends q ≡ true → active m (posted m s c) q ≡ space_of m e → ⊥
    still_away v a = away v (sym (active-posted m s c q) ∙ a)

    passed_writes : c.removed ≡ removed.Writes → IsKept m (with_change m s c) q e t
    passed_writes x = record {
      frame = k.frame;
      below = still_below;
      own_all = own_all_same (ap removes_all x);
      own_writes = λ r h. other_made m s c removes_writes (page_of m e) t.seq o q d (ap removes_writes x) older;
      marked_right = k.marked_right;
      marked_cause = marked_cause_more;
      answered_all = λ v a. absurd (still_away v a);
      answered_writes = λ v a u. absurd (still_away v a);
    }

    passed_all : c.removed ≡ removed.All → IsKept m (with_change m s c) q e t
    passed_all x = record {
      frame = k.frame;
      below = still_below;
      own_all = λ h. other_made m s c removes_all (page_of m e) t.seq o q d (ap removes_all x) older;
      own_writes = λ r h.
          other_same m s c removes_writes (page_of m e) t.seq o q (ap removes_writes x)
          ∙ k.own_writes r (sym (later_same m s c removes_writes (page_of m e) t.seq o (ap removes_writes x)) ∙ h);
      marked_right = k.marked_right;
      marked_cause = marked_cause_more;
      answered_all = λ v a. absurd (still_away v a);
      answered_writes = λ v a u. absurd (still_away v a);
    }

-- ---- a change behind its messages

module _ (m : Machine) (s : Coarse) (c : Change) (k : IsSettled m s) (n : IsNextChange m s.history c) where
  -- of the actor: what its own change left of a translation
  left_kept : (e : ℕ) (t : Translation) → c.actor < m.nodes → e < length m.entries → page_of m e ≡ c.page →
      kept_of c.removed (held m s.history c.actor e) ≡ Some t → IsKept m (with_change m s c) c.actor e t
  left_kept e t h l o w = by c.removed refl (held m s.history c.actor e) refl w
    where
      by : (rem : Removed) → c.removed ≡ rem → (u : Option Translation) → held m s.history c.actor e ≡ u → kept_of rem u ≡ Some t →
          IsKept m (with_change m s c) c.actor e t
      by removed.Nothing x u i w = nothing_kept m s c n c.actor e t o (k.kept c.actor e t h l (i ∙ w)) x
      by removed.Writes x None i w = absurd cc
      by removed.Writes x (Some u) i w =
          let now : Translation = record { grant = to_read u.grant; seq = u.seq; restricted = u.restricted }
          in let same : now ≡ t = cc
          in subst (λ (v : Translation). IsKept m (with_change m s c) c.actor e v) same
          (lowered_kept m s c n c.actor e u o (k.kept c.actor e u h l i) x refl)
      by removed.All x u i w = absurd cc

  own_held : (e : ℕ) → page_of m e ≡ c.page →
      held m (posted m s c) c.actor e ≡ granted_to e c.seq c.granted (kept_of c.removed (held m s.history c.actor e))
  own_held e o = held-posted_own m s c e ∙ rw (eq-eqb (page_of m e) c.page o) refl

  own_kept : (e : ℕ) (t : Translation) → c.actor < m.nodes → e < length m.entries → page_of m e ≡ c.page →
      held m (posted m s c) c.actor e ≡ Some t → IsKept m (with_change m s c) c.actor e t
  own_kept e t h l o w = by c.granted refl (sym (own_held e o) ∙ w)
    where
      at : (g : Grant) → c.granted ≡ Some g → (here : Bool) → (g.entry == e) ≡ here →
          (if here then Some (record { grant = g; seq = c.seq; restricted = false }) else kept_of c.removed (held m s.history c.actor e))
          ≡ Some t → IsKept m (with_change m s c) c.actor e t
      at g x true i w =
          let now : Translation = record { grant = g; seq = c.seq; restricted = false }
          in let same : now ≡ t = cc
          in subst (λ (v : Translation). IsKept m (with_change m s c) c.actor e v) same
          (subst (λ (i : ℕ). IsKept m (with_change m s c) c.actor i now) (eqb-true g.entry e i) (fresh_kept m s c k n g x))
      at g x false i w = left_kept e t h l o w

      by : (granted : Option Grant) → c.granted ≡ granted → granted_to e c.seq granted (kept_of c.removed (held m s.history c.actor e))
          ≡ Some t → IsKept m (with_change m s c) c.actor e t
      by None x w = left_kept e t h l o w
      by (Some g) x w = at g x (g.entry == e) refl w

  -- of another processor: one that a message told, and one that none did

  hit_kept : (q e : ℕ) (t : Translation) → c.actor ≢ q → q < m.nodes → e < length m.entries → page_of m e ≡ c.page →
      hit m s c.actor c.page c.removed q e ≡ true → told (message_of c.removed) (held m s.history q e) ≡ Some t →
      IsKept m (with_change m s c) q e t
  hit_kept q e t d h l o is_hit w = by c.removed refl (held m s.history q e) refl w
    where
      by : (rem : Removed) → c.removed ≡ rem → (u : Option Translation) → held m s.history q e ≡ u → told (message_of rem) u ≡ Some t →
          IsKept m (with_change m s c) q e t
      by removed.Nothing x u i w = absurd (true≢false (sym (hit-parts m s c q e is_hit).some ∙ ap removes_some x))
      by removed.Writes x None i w = absurd cc
      by removed.Writes x (Some u) i w =
          let now : Translation = record { grant = to_read u.grant; seq = u.seq; restricted = true }
          in let same : now ≡ t = cc
          in subst (λ (v : Translation). IsKept m (with_change m s c) q e v) same (told_kept m s c n q e u o (k.kept q e u h l i) x d)
      by removed.All x u i w = absurd cc

  no_target : (q e : ℕ) (t : Translation) → c.actor ≢ q → q < m.nodes → page_of m e ≡ c.page → hit m s c.actor c.page c.removed q e
      ≡ false → held m s.history q e ≡ Some t → removes_some c.removed ≡ true → is_live s.ends q ≡ true →
      active m s.history q ≡ space_of m e → ⊥
  no_target q e t d h o no_hit w some v a =
      true≢false
      (sym (rw (
        some,
        eq-eqb (page_of m e) c.page o,
        lt-ltb q m.nodes h,
        ne_eqb q c.actor (λ same. d (sym same)),
        v,
        w,
        eq-eqb (active m s.history q) (space_of m e) a,
      ) refl)
      ∙ no_hit)

  missed_kept : (q e : ℕ) (t : Translation) → c.actor ≢ q → q < m.nodes → e < length m.entries → page_of m e ≡ c.page →
      hit m s c.actor c.page c.removed q e ≡ false → held m s.history q e ≡ Some t → IsKept m (with_change m s c) q e t
  missed_kept q e t d h l o no_hit w = by c.removed refl
    where
      away : (rem : Removed) → c.removed ≡ rem → removes_some rem ≡ true → is_live s.ends q ≡ true → active m s.history q ≡ space_of m e → ⊥
      away rem x some = no_target q e t d h o no_hit w (ap removes_some x ∙ some)

      by : (rem : Removed) → c.removed ≡ rem → IsKept m (with_change m s c) q e t
      by removed.Nothing x = nothing_kept m s c n q e t o (k.kept q e t h l w) x
      by removed.Writes x = passed_writes m s c n q e t o (k.kept q e t h l w) d (away removed.Writes x refl) x
      by removed.All x = passed_all m s c n q e t o (k.kept q e t h l w) d (away removed.All x refl) x

  other_kept : (q e : ℕ) (t : Translation) → q ≢ c.actor → q < m.nodes → e < length m.entries → page_of m e ≡ c.page →
      held m (posted m s c) q e ≡ Some t → IsKept m (with_change m s c) q e t
  other_kept q e t d h l o w =
      by (hit m s c.actor c.page c.removed q e) refl (sym (held-posted_other m s c q e d l) ∙ w)
    where
      by : (b : Bool) → hit m s c.actor c.page c.removed q e ≡ b →
          (if b then told (message_of c.removed) (held m s.history q e) else held m s.history q e) ≡ Some t →
          IsKept m (with_change m s c) q e t
      by true x w = hit_kept q e t (λ same. d (sym same)) h l o x w
      by false x w = missed_kept q e t (λ same. d (sym same)) h l o x w

  posted-kept : (q e : ℕ) (t : Translation) → q < m.nodes → e < length m.entries → held m (posted m s c) q e ≡ Some t →
      IsKept m (with_change m s c) q e t
  posted-kept q e t h l w = ⊎_elim of_page (λ d. posted-kept_other m s c k n q e t h l d w) (cases_eq (page_of m e) c.page)
    where
      at_actor : (r : ℕ) → c.actor ≡ r → r < m.nodes → page_of m e ≡ c.page → held m (posted m s c) r e ≡ Some t →
          IsKept m (with_change m s c) r e t
      at_actor r same =
          subst (λ (r : ℕ). r < m.nodes → page_of m e ≡ c.page → held m (posted m s c) r e ≡ Some t → IsKept m (with_change m s c) r e t)
          same
          (λ h o w. own_kept e t h l o w)

      of_page : page_of m e ≡ c.page → IsKept m (with_change m s c) q e t
      of_page o = ⊎_elim (λ same. at_actor q (sym same) h o w) (λ d. other_kept q e t d h l o w) (cases_eq q c.actor)

-- a change and the messages before it, of a fault or of a thaw
pub settled-posted : (m : Machine) (s : Coarse) (c : Change) → IsSettled m s → IsNextChange m s.history c →
    IsSettled m (record { history = posted m s c; ends = s.ends })
settled-posted m s c k n = record { page = posted-page m s c k n; kept = posted-kept m s c k n }
