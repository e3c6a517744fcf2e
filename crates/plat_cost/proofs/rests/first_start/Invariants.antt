use Rattle.std.specs.Prelude.{slice_index}
use Rattle.plat_cost.specs.Rests.{IsFirstLeast}
use Rattle.plat_cost.proofs.rests.first_start.Given as goal

abbrev pub invariant-loop-x : goal.invariant-loop-x
invariant-loop-x l = IsFirstLeast (slice_index l.rest) l.x l.best
