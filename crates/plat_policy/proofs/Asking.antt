-- what the test of a decision's conditions tells
use Rattle.std.proofs.Common.{◌≡◌, ℕ, Bool, true, false, Option, refl}
use Rattle.std.specs.Prelude.{IsTrue, ◌&&◌}
use Rattle.plat_base.specs.Verdicts.{Answer}
use Rattle.plat_base.specs.declared.frames.Frame.{Frame}
use Rattle.plat_base.specs.declared.frames.Dir.{Dir}
use Rattle.plat_base.specs.declared.items.Cause.{Cause}
use Rattle.plat_base.specs.Machine.{Machine}
use Rattle.plat_base.specs.Decide.{may_decide, is_dir, fits_cause}

left : (a b : Bool) → (a && b) ≡ true → IsTrue a
left true b h = refl
left false b h = absurd cc

right : (a b : Bool) → (a && b) ≡ true → IsTrue b
right true true h = refl
right true false h = absurd cc
right false b h = absurd cc

pub is_dir-may_decide : (m : Machine) (answer : Answer) (dir : Dir) (last : Option ℕ) (now node : ℕ) (cause : Cause) (got : Option Frame) →
    may_decide m answer dir last now node cause got ≡ true → IsTrue (is_dir m dir)
is_dir-may_decide m answer dir last now node cause got h = left (is_dir m dir) (fits_cause m answer dir last now node cause got) h

pub fits_cause-may_decide : (m : Machine) (answer : Answer) (dir : Dir) (last : Option ℕ) (now node : ℕ) (cause : Cause)
    (got : Option Frame) → may_decide m answer dir last now node cause got ≡ true → IsTrue (fits_cause m answer dir last now node cause got)
fits_cause-may_decide m answer dir last now node cause got h = right (is_dir m dir) (fits_cause m answer dir last now node cause got) h

pub ruleset may = (is_dir-may_decide, fits_cause-may_decide)
