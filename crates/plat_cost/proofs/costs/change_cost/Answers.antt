use Rattle.std.proofs.Common.{◌≤◌, arith}
use Rattle.plat_cost.proofs.DistanceLaws.{distance_most, carry_most}
use Rattle.plat_cost.proofs.costs.change_cost.Goals as goal

pub overflow_mul-result : goal.overflow_mul-result
overflow_mul-result c =
    let low : c.distance.result ≤ 1000 = rw c.distance.ensures (distance_most c.args.cfg.now _ _)
    in let most = carry_most c.args.cfg.now c.distance.result low
    in omega arith

pub returns-clause-most : goal.returns-clause-most
returns-clause-most c = carry_most c.args.cfg.now c.distance.result (rw c.distance.ensures (distance_most c.args.cfg.now _ _))
