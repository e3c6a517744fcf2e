-- what a decision removes, by the state of the page before it
use Rattle.std.specs.Prelude.{◌≡◌, ◌≢◌, ℕ, ◌+◌, ◌≤◌, ◌==◌, nat_lt, not, Bool, true, false, List, [], ◌∷◌, filter, cond, Option, Some}
use Rattle.std.specs.Prelude.{is_some, is_none}
use Rattle.std.specs.Prelude.{◌⊎◌, ◌||◌}
use Rattle.std.proofs.Common.{refl, ap, sym, ◌∙◌, inl, inr, arith, subst}
use Rattle.std.specs.List.{list_any}
use Rattle.std.proofs.lemmas.Bool.{and_parts, eqb-true, eq-eqb, ne_eqb, not-true, true≢false, cond-true, cond-false, or_cases}
use Rattle.std.proofs.lemmas.Bool.Decides.{nat_tests}
use Rattle.std.proofs.Math.Bool.{or-true}
use Rattle.plat_base.specs.Verdicts.{Answer}
use Rattle.plat_base.specs.Machine.{Machine}
use Rattle.plat_base.specs.Copies.{same_frame, copy_on}
use Rattle.plat_base.specs.Decide.{row_of, row_does, decide, asks, moves_page, frozen_after, is_empty, is_dir, modules_rise, may_decide}
use Rattle.plat_base.specs.Decide.{fits_cause}
use Rattle.plat_base.specs.declared.frames.Frame.{Frame}
use Rattle.plat_base.specs.declared.frames.Dir.{Dir}
use Rattle.plat_base.specs.declared.frames.State.{State}
use Rattle.plat_base.specs.declared.frames.State.TheVariants as state
use Rattle.plat_base.specs.declared.items.Cause.{Cause}
use Rattle.plat_base.specs.declared.items.Cause.TheVariants as cause
use Rattle.plat_base.specs.declared.items.Removed.{Removed}
use Rattle.plat_base.specs.declared.items.Removed.TheVariants as removed
use Rattle.plat_base.proofs.CopiesLemmas.{same_frame-itself}
use Rattle.plat_laws.proofs.TableLaws.{decide_facts, dir_parts}
use Rattle.plat_events.specs.Sessions.{going}
use Rattle.plat_events.specs.Kept.{is_copy_of}
use Rattle.plat_laws.proofs.SameLaws.{same_frame-true}

-- ---- the rows

row-writes :
    (m : Machine) (dir : Dir) (frozen : Bool) (node : ℕ) (got : Option Frame) (c : Cause) (st : State) (here moves : Bool) →
    (row_does m (row_of c st here moves) dir frozen node got).removed ≡ removed.Writes → st ≡ state.Modified
row-writes m dir frozen node got c st here moves h = search arith

row-all :
    (m : Machine) (dir : Dir) (frozen : Bool) (node : ℕ) (got : Option Frame) (c : Cause) (st : State) (here moves : Bool) →
    c ≢ cause.Thaw → (row_does m (row_of c st here moves) dir frozen node got).removed ≡ removed.All → st ≢ state.Empty
row-all m dir frozen node got c st here moves fault h = search arith

module _ (m : Machine) (answer : Answer) (dir : Dir) (last : Option ℕ) (now node : ℕ) (got : Option Frame) where
  -- writes are removed on a modified page alone
  pub decided-writes : (c : Cause) → (decide m answer dir last now node c got).removed ≡ removed.Writes → dir.state ≡ state.Modified
  decided-writes c h =
      row-writes m dir (frozen_after (asks c dir node) (answer dir last now) dir.frozen) node got c dir.state
      (is_some (copy_on node dir.copies)) (moves_page (answer dir last now) got) h

  -- a page that is frozen is not empty
  frozen-some : is_dir m dir ≡ true → dir.frozen ≡ true → dir.state ≢ state.Empty
  frozen-some h frozen empty =
      let none : is_empty dir.state ≡ true = ap is_empty empty in absurd (grind (arith, nat_tests))

  -- all is removed on a page with copies alone
  pub decided-all :
      (c : Cause) → may_decide m answer dir last now node c got ≡ true →
      (decide m answer dir last now node c got).removed ≡ removed.All → dir.state ≢ state.Empty
  decided-all cause.Read may h =
      row-all m dir (frozen_after (asks cause.Read dir node) (answer dir last now) dir.frozen) node got cause.Read dir.state
      (is_some (copy_on node dir.copies)) (moves_page (answer dir last now) got) (λ e. absurd cc) h
  decided-all cause.Write may h =
      row-all m dir (frozen_after (asks cause.Write dir node) (answer dir last now) dir.frozen) node got cause.Write dir.state
      (is_some (copy_on node dir.copies)) (moves_page (answer dir last now) got) (λ e. absurd cc) h
  decided-all cause.Thaw may h =
      let both = and_parts (is_dir m dir) (fits_cause m answer dir last now node cause.Thaw got) may in
      let frozen = and_parts dir.frozen (is_none got) both.1 in
      frozen-some both.0 frozen.0

-- ---- frames

is_copy_of-from : (low : ℕ) (fs : List Frame) (f : Frame) → modules_rise low fs ≡ true → is_copy_of fs f ≡ true → low ≤ f.module
is_copy_of-from low [] f rise copy = absurd cc
is_copy_of-from low (g ∷ gs) f rise copy =
    let risen = and_parts (not (nat_lt g.module low)) (modules_rise (g.module + 1) gs) rise in
    let above : low ≤ g.module = let first = risen.0 in grind (arith, nat_tests) in
    from_either (g.module) above (or_cases (same_frame f g) (is_copy_of gs f) copy)
    (λ same. ap (λ (x : Frame). x.module) (same_frame-true f g same)) (λ there. is_copy_of-from (g.module + 1) gs f risen.1 there)
  where
    from_either :
        (k : ℕ) → low ≤ k → (same_frame f g ≡ true) ⊎ (is_copy_of gs f ≡ true) → (same_frame f g ≡ true → f.module ≡ k) →
        (is_copy_of gs f ≡ true → k + 1 ≤ f.module) → low ≤ f.module
    from_either k above (inl same) here more = let e = here same in omega arith
    from_either k above (inr there) here more = let e = more there in omega arith

pub is_copy_of-on : (low : ℕ) (fs : List Frame) (f : Frame) → modules_rise low fs ≡ true → is_copy_of fs f ≡ true →
    copy_on f.module fs ≡ Some f
is_copy_of-on low [] f rise copy = absurd cc
is_copy_of-on low (g ∷ gs) f rise copy =
    let risen = and_parts (not (nat_lt g.module low)) (modules_rise (g.module + 1) gs) rise in
    either (or_cases (same_frame f g) (is_copy_of gs f) copy) (λ there. is_copy_of-on (g.module + 1) gs f risen.1 there)
    (λ there. is_copy_of-from (g.module + 1) gs f risen.1 there)
  where
    either :
        (same_frame f g ≡ true) ⊎ (is_copy_of gs f ≡ true) → (is_copy_of gs f ≡ true → copy_on f.module gs ≡ Some f) →
        (is_copy_of gs f ≡ true → g.module + 1 ≤ f.module) → copy_on f.module (g ∷ gs) ≡ Some f
    either (inl same) more above =
        let e : f ≡ g = same_frame-true f g same in
        let here : (g.module == f.module) ≡ true = eq-eqb g.module f.module (ap (λ (x : Frame). x.module) (sym e)) in
        cond-true (g.module == f.module) (Some g) (copy_on f.module gs) here ∙ ap (λ (x : Frame). Some x) (sym e)
    either (inr there) more above =
        let apart : (g.module == f.module) ≡ false = ne_eqb g.module f.module (let k = above there in omega arith) in
        cond-false (g.module == f.module) (Some g) (copy_on f.module gs) apart ∙ more there

pub copy_on-is : (mo : ℕ) (fs : List Frame) (f : Frame) → copy_on mo fs ≡ Some f → is_copy_of fs f ≡ true
copy_on-is mo [] f on = absurd cc
copy_on-is mo (g ∷ gs) f on = by (g.module == mo) on (λ there. copy_on-is mo gs f there)
  where
    by : (b : Bool) → cond b (Some g) (copy_on mo gs) ≡ Some f → (copy_on mo gs ≡ Some f → is_copy_of gs f ≡ true) →
        (same_frame f g || is_copy_of gs f) ≡ true
    by true here more =
        let e : g ≡ f = cc in let same : same_frame f g ≡ true = subst (λ x. same_frame f x ≡ true) (sym e)
        (same_frame-itself f) in rw same refl
    by false here more = rw (more here) (or-true (same_frame f g))

-- a frame that goes is a copy of the directory before and none of the directory after
going-any :
    (f : Frame) (test : Frame → Bool) (fs : List Frame) → list_any (same_frame f) (filter test fs) ≡ true →
    (is_copy_of fs f ≡ true) × (test f ≡ true)
going-any f test [] h = absurd cc
going-any f test (g ∷ gs) h = by (test g) refl h (λ there. going-any f test gs there)
  where
    rest : (b : Bool) → is_copy_of gs f ≡ true → (b || is_copy_of gs f) ≡ true
    rest true there = refl
    rest false there = there

    first : (b : Bool) → same_frame f g ≡ b → test g ≡ true → (b || list_any (same_frame f) (filter test gs)) ≡ true →
        (list_any (same_frame f) (filter test gs) ≡ true → (is_copy_of gs f ≡ true) × (test f ≡ true)) →
        ((b || is_copy_of gs f) ≡ true) × (test f ≡ true)
    first true same is h more = (refl, subst (λ x. test x ≡ true) (sym (same_frame-true f g same)) is)
    first false same is h more = more h

    by : (b : Bool) → test g ≡ b → list_any (same_frame f) (cond b (g ∷ filter test gs) (filter test gs)) ≡ true →
        (list_any (same_frame f) (filter test gs) ≡ true → (is_copy_of gs f ≡ true) × (test f ≡ true)) →
        ((same_frame f g || is_copy_of gs f) ≡ true) × (test f ≡ true)
    by true is h more = first (same_frame f g) refl is h more
    by false is h more = let found = more h in (rest (same_frame f g) found.0, found.1)

-- frames are given back only where all is removed
module _ (m : Machine) (answer : Answer) (dir : Dir) (last : Option ℕ) (now node : ℕ) (got : Option Frame) (f : Frame) where
  fault-given :
      (c : Cause) → c ≢ cause.Thaw → may_decide m answer dir last now node c got ≡ true → is_dir m dir ≡ true →
      list_any (same_frame f) (going dir (decide m answer dir last now node c got)) ≡ true →
      (decide m answer dir last now node c got).removed ≢ removed.All → ⊥
  fault-given c fault may fits given other =
      let d = decide m answer dir last now node c got in
      let facts = decide_facts m answer dir last now node c got fault may in
      let gone = going-any f (λ (g : Frame). not (list_any (same_frame g) d.after.copies)) dir.copies given in
      let on = is_copy_of-on 0 dir.copies f (dir_parts m dir fits).1 gone.0 in
      let stays = copy_on-is f.module d.after.copies f (facts.copies_stay f.module f other on) in
      let leaves : not (list_any (same_frame f) d.after.copies) ≡ true = gone.1 in
      absurd (true≢false (sym stays ∙ not-true (list_any (same_frame f) d.after.copies) leaves))

all-or : (r : Removed) → (r ≢ removed.All → ⊥) → r ≡ removed.All
all-or removed.Nothing h = absurd (h (λ e. absurd cc))
all-or removed.Writes h = absurd (h (λ e. absurd cc))
all-or removed.All h = refl

pub decided-given :
    (m : Machine) (answer : Answer) (dir : Dir) (last : Option ℕ) (now node : ℕ) (c : Cause) (got : Option Frame) (f : Frame) →
    may_decide m answer dir last now node c got ≡ true → is_dir m dir ≡ true →
    list_any (same_frame f) (going dir (decide m answer dir last now node c got)) ≡ true →
    (decide m answer dir last now node c got).removed ≡ removed.All
decided-given m answer dir last now node cause.Read got f may fits given =
    all-or (decide m answer dir last now node cause.Read got).removed
    (λ other. fault-given m answer dir last now node got f cause.Read (λ e. absurd cc) may fits given other)
decided-given m answer dir last now node cause.Write got f may fits given =
    all-or (decide m answer dir last now node cause.Write got).removed
    (λ other. fault-given m answer dir last now node got f cause.Write (λ e. absurd cc) may fits given other)
decided-given m answer dir last now node cause.Thaw got f may fits given = refl
