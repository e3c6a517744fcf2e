-- at a fault the policy need not be asked where the row does not depend on its verdict
use Rattle.std.proofs.Common.{◌≡◌, ℕ, ◌<◌, Bool, true, false, if◌then◌else◌, Option, Some, None, refl, arith, []}
use Rattle.std.specs.Prelude.{IsTrue, ◌&&◌, ◌||◌, not, is_some, is_none}
use Rattle.std.proofs.lemmas.Bool.Decides.{nat_tests}
use Rattle.plat_base.specs.Verdicts.{Answer}
use Rattle.plat_base.specs.declared.frames.Frame.{Frame}
use Rattle.plat_base.specs.declared.frames.Dir.{Dir}
use Rattle.plat_base.specs.declared.frames.State.{State}
use Rattle.plat_base.specs.declared.frames.State.TheVariants.{Empty, Present1, PresentPlus, Modified}
use Rattle.plat_base.specs.declared.items.Cause.{Cause}
use Rattle.plat_base.specs.declared.items.Cause.TheVariants as cause
use Rattle.plat_base.specs.declared.policies.Verdict.{Verdict}
use Rattle.plat_base.specs.declared.policies.Verdict.TheVariants.{Stay, Freeze, Move}
use Rattle.plat_base.specs.Machine.{Machine}
use Rattle.plat_base.specs.Copies.{copy_on}
use Rattle.plat_base.specs.Alike.{same_verdict}
use Rattle.plat_base.specs.Decide.{row_of, is_empty, asks, moves_page, fits_fault, fits_cause, frozen_after, after_with}
use Rattle.plat_policy.specs.Rows.{row_fits, asked}

-- whether the policy is asked, by the page's state and the node's copy, and the verdict that follows
abbrev asks_at : State → Option Frame → Bool
asks_at state here = not (is_empty state) && is_none here

abbrev asked_at : State → Option Frame → Verdict → Verdict
asked_at state here v = if asks_at state here then v else Stay

frozen-asked : (a frozen : Bool) (v : Verdict) → frozen || same_verdict (if a then v else Stay) Freeze ≡ frozen_after a v frozen
frozen-asked true frozen v = refl
frozen-asked false frozen v = refl

read-row : (state : State) (here got : Option Frame) (v : Verdict) →
    row_of cause.Read state (is_some here) (moves_page (asked_at state here v) got)
    ≡ row_of cause.Read state (is_some here) (moves_page v got)
read-row Empty here got v = refl
read-row Present1 None got v = refl
read-row Present1 (Some f) got v = refl
read-row PresentPlus None got v = refl
read-row PresentPlus (Some f) got v = refl
read-row Modified None got v = refl
read-row Modified (Some f) got v = refl

write-row : (state : State) (here got : Option Frame) (v : Verdict) →
    row_of cause.Write state (is_some here) (moves_page (asked_at state here v) got)
    ≡ row_of cause.Write state (is_some here) (moves_page v got)
write-row Empty here got v = refl
write-row Present1 None got v = refl
write-row Present1 (Some f) got v = refl
write-row PresentPlus None got v = refl
write-row PresentPlus (Some f) got v = refl
write-row Modified None got v = refl
write-row Modified (Some f) got v = refl

-- what was got fits the row
read-fits : (m : Machine) (state : State) (here got : Option Frame) (v : Verdict) (node : ℕ) → node < m.nodes →
    IsTrue (fits_fault m (after_with state false []) (asks_at state here) (same_verdict v Move) node got) →
    IsTrue (row_fits m (row_of cause.Read state (is_some here) (moves_page v got)) state here node got)
read-fits m Empty here got v node l h = h
read-fits m Present1 None None v node l h = grind (arith, nat_tests)
read-fits m Present1 None (Some g) v node l h = grind (arith, nat_tests)
read-fits m Present1 (Some f) got v node l h = grind (arith, nat_tests)
read-fits m PresentPlus None None v node l h = grind (arith, nat_tests)
read-fits m PresentPlus None (Some g) v node l h = grind (arith, nat_tests)
read-fits m PresentPlus (Some f) got v node l h = grind (arith, nat_tests)
read-fits m Modified None None v node l h = grind (arith, nat_tests)
read-fits m Modified None (Some g) v node l h = grind (arith, nat_tests)
read-fits m Modified (Some f) got v node l h = grind (arith, nat_tests)

write-fits : (m : Machine) (state : State) (here got : Option Frame) (v : Verdict) (node : ℕ) → node < m.nodes →
    IsTrue (fits_fault m (after_with state false []) (asks_at state here) (same_verdict v Move) node got) →
    IsTrue (row_fits m (row_of cause.Write state (is_some here) (moves_page v got)) state here node got)
write-fits m Empty here got v node l h = h
write-fits m Present1 None None v node l h = grind (arith, nat_tests)
write-fits m Present1 None (Some g) v node l h = grind (arith, nat_tests)
write-fits m Present1 (Some f) got v node l h = grind (arith, nat_tests)
write-fits m PresentPlus None None v node l h = grind (arith, nat_tests)
write-fits m PresentPlus None (Some g) v node l h = grind (arith, nat_tests)
write-fits m PresentPlus (Some f) got v node l h = grind (arith, nat_tests)
write-fits m Modified None None v node l h = grind (arith, nat_tests)
write-fits m Modified None (Some g) v node l h = grind (arith, nat_tests)
write-fits m Modified (Some f) got v node l h = grind (arith, nat_tests)

-- the row of a fault, where the policy was asked only if needed, is the row of the definition
pub fault-row : (c : Cause) (answer : Answer) (dir : Dir) (last : Option ℕ) (now node : ℕ) (got : Option Frame) → (c ≡ cause.Thaw → ⊥) →
    row_of c dir.state (is_some (copy_on node dir.copies)) (moves_page (asked answer dir last now node) got)
    ≡ row_of c dir.state (is_some (copy_on node dir.copies)) (moves_page (answer dir last now) got)
fault-row cause.Read answer dir last now node got h = read-row dir.state (copy_on node dir.copies) got (answer dir last now)
fault-row cause.Write answer dir last now node got h = write-row dir.state (copy_on node dir.copies) got (answer dir last now)
fault-row cause.Thaw answer dir last now node got h = absurd (h refl)

pub fault-frozen : (c : Cause) (answer : Answer) (dir : Dir) (last : Option ℕ) (now node : ℕ) → (c ≡ cause.Thaw → ⊥) →
    dir.frozen || same_verdict (asked answer dir last now node) Freeze ≡ frozen_after (asks c dir node) (answer dir last now) dir.frozen
fault-frozen cause.Read answer dir last now node h = frozen-asked (asks cause.Read dir node) dir.frozen (answer dir last now)
fault-frozen cause.Write answer dir last now node h = frozen-asked (asks cause.Write dir node) dir.frozen (answer dir last now)
fault-frozen cause.Thaw answer dir last now node h = absurd (h refl)

pub fault-fits : (m : Machine) (c : Cause) (answer : Answer) (dir : Dir) (last : Option ℕ) (now node : ℕ) (got : Option Frame) →
    (c ≡ cause.Thaw → ⊥) → node < m.nodes → IsTrue (fits_cause m answer dir last now node c got) →
    IsTrue (row_fits m (row_of c dir.state (is_some (copy_on node dir.copies)) (moves_page (answer dir last now) got)) dir.state
    (copy_on node dir.copies) node got)
fault-fits m cause.Read answer dir last now node got h l k =
    read-fits m dir.state (copy_on node dir.copies) got (answer dir last now) node l k
fault-fits m cause.Write answer dir last now node got h l k =
    write-fits m dir.state (copy_on node dir.copies) got (answer dir last now) node l k
fault-fits m cause.Thaw answer dir last now node got h l k = absurd (h refl)
