use Rattle.plat_base.specs.Seen.{machine}
use Rattle.plat_cost.specs.Rests.{IsWalked}
use Rattle.plat_cost.proofs.rests.walk.Given as goal

abbrev pub invariant-loop-i : goal.invariant-loop-i
invariant-loop-i l = IsWalked (machine l.cfg) l.rest l.plan l.i
