use Rattle.std.proofs.Common.{arith}
use Rattle.plat_coarse.proofs.RoomLemmas.{turns_most}
use Rattle.plat_coarse.proofs.turns.most_turns.Goals as goal

pub overflow_mul-result : goal.overflow_mul-result
overflow_mul-result c = omega (arith, turns_most c.args.cfg.now)

pub returns-clause-few : goal.returns-clause-few
returns-clause-few c = turns_most c.args.cfg.now
