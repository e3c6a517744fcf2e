use Rattle.plat_machine.proofs.PrintLines.{adds_more}
use Rattle.plat_machine.proofs.printing.write_head.Goals as goal

pub returns : goal.returns
returns g c = adds_more g.K.Sink _ _ _ _ _ _ _ c.in_ok-write_sizes.ensures c.write_settings.ensures
