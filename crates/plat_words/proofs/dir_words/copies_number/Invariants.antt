use Rattle.plat_words.proofs.CopyFields.{AreWritten}
use Rattle.plat_words.proofs.dir_words.copies_number.Given as goal

abbrev pub invariant-loop-module : goal.invariant-loop-module
invariant-loop-module l = AreWritten l.copies l.module l.modules l.frames
