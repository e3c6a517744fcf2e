use Rattle.std.proofs.Common.{arith}
use Rattle.plat_base.specs.Seen.{machine}
use Rattle.plat_cost.proofs.RestLaws.{walked_more}
use Rattle.plat_cost.proofs.rests.walk.Goals as goal

pub loop-i-preserved : goal.loop-i-preserved
loop-i-preserved c =
    walked_more (machine c.args.cfg.now) c.args.rest.now c.loop-i.plan c.loop-i.i c.first_onward.result (omega arith)
    (omega arith) c.loop-i.invariant
    c.first_onward.ensures
