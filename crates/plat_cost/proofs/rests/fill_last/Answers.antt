use Rattle.std.proofs.Common.{arith}
use Rattle.plat_base.specs.Seen.{machine}
use Rattle.plat_cost.proofs.DistanceLaws.{distance_most}
use Rattle.plat_cost.proofs.RestLaws.{low_last}
use Rattle.plat_cost.proofs.rests.fill_last.Goals as goal

pub returns-clause-low : goal.returns-clause-low
returns-clause-low c =
    low_last (machine c.args.cfg.now) c.loop-x.rest c.args.base c.args.actor (omega arith) (distance_most c.args.cfg.now c.args.actor)
    (λ x l. c.loop-x.invariant x (omega arith))
