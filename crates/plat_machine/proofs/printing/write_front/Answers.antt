use Rattle.plat_machine.proofs.PrintLines.{adds_more}
use Rattle.plat_machine.proofs.printing.write_front.Goals as goal

pub returns : goal.returns
returns g c =
    rw (← c.as_slice.ensures, ← c.as_slice-2.ensures, ← c.as_slice-3.ensures, ← c.as_slice-4.ensures)
    (adds_more g.K.Sink _ _ _ _ _ _ _ c.in_ok-write_sizes.ensures
    (adds_more g.K.Sink _ _ _ _ _ _ _ c.in_ok-write_settings.ensures c.write_body.ensures))
