use Rattle.std.proofs.Common.{arith}
use Rattle.plat_sched.proofs.ActorsLemmas.{count_is}
use Rattle.plat_sched.proofs.actors.count.Goals as goal

pub returns : goal.returns
returns c = count_is c.args.live (omega arith)
