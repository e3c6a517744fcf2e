use Rattle.std.proofs.Common.{rules}
use Rattle.plat_fine_tests.proofs.proc_tests.halts_with.Goals as goal

pub loop-preserved : goal.loop-preserved
loop-preserved c = record { live = c.step.ensures.live (search rules); fits = c.step.ensures.fits; words = c.step.ensures.words }
