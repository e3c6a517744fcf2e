use Rattle.std.proofs.Common.{arith}
use Rattle.plat_base.proofs.LimitLemmas.{nodes_most}
use Rattle.plat_cost.proofs.DistanceLaws.{distance_most}
use Rattle.plat_cost.proofs.distances.way.Goals as goal

pub returns-clause-most : goal.returns-clause-most
returns-clause-most c =
    let nodes = nodes_most c.args.cfg.now
    in let is = c.requires.far c.args.a (omega arith) c.args.b (omega arith)
    in let most = distance_most c.args.cfg.now c.args.a c.args.b
    in omega arith
