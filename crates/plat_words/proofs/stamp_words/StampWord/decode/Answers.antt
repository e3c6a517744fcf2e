-- a value whose word this is has the numbers that were read
use Rattle.std.proofs.Common.{Some, ap, arith}
use Rattle.plat_words.proofs.Sames.{stamp_read}
use Rattle.plat_words.proofs.stamp_words.StampWord.decode.Goals as goal

pub returns-clause-exact : goal.returns-clause-exact
returns-clause-exact c = λ x h e. ap Some (stamp_read c.args.word x _ (record { last = grind arith; seq = grind arith }) h e)
