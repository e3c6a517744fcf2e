use Rattle.plat_base.specs.Seen.{machine}
use Rattle.plat_cost.specs.Rests.{IsFirstLeast, onward_at}
use Rattle.plat_cost.proofs.rests.first_onward.Given as goal

abbrev pub invariant-loop-y : goal.invariant-loop-y
invariant-loop-y l = IsFirstLeast (onward_at (machine l.cfg) l.rest l.next l.x) l.y l.best
