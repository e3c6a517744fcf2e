use Rattle.std.proofs.Common.{◌≡◌}
use Rattle.plat_words.proofs.CopyFields.{copies_from}
use Rattle.plat_words.proofs.dir_words.copies_of.Given as goal

abbrev pub invariant-loop-module : goal.invariant-loop-module
invariant-loop-module l = l.copies ≡ copies_from l.word 0 l.module
