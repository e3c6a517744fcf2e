use Rattle.std.proofs.Common.{arith}
use Rattle.std.proofs.lemmas.Bool.Decides.{nat_tests}
use Rattle.plat_base.proofs.SlotLemmas.{copy_on-slot}
use Rattle.plat_base.proofs.frames.Copies.on.Goals as goal

pub returns-then-number-lt-NO_FRAME : goal.returns-then-number-lt-NO_FRAME
returns-then-number-lt-NO_FRAME c = grind (arith, nat_tests, c.self.view_is, copy_on-slot 0 c.args.node c.args.node c.self.inside.slots)

pub returns-else-number-lt-NO_FRAME : goal.returns-else-number-lt-NO_FRAME
returns-else-number-lt-NO_FRAME c = grind (arith, nat_tests, c.self.view_is, copy_on-slot 0 c.args.node c.args.node c.self.inside.slots)
