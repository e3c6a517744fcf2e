use Rattle.plat_machine.specs.Printed.{size_lines}
use Rattle.plat_machine.proofs.PrintLines.{adds_more, adds_part}
use Rattle.plat_machine.proofs.printing.write_sizes.Goals as goal

pub returns-in_err-write_line-4 : goal.returns-in_err-write_line-4
unfolding size_lines
returns-in_err-write_line-4 g c =
    adds_more g.K.Sink _ _ _ _ _ _ _ c.in_ok-write_line.ensures
    (adds_more g.K.Sink _ _ _ _ _ _ _ c.in_ok-write_line-2.ensures
    (adds_more g.K.Sink _ _ _ _ _ _ _ c.in_ok-write_line-3.ensures
    (adds_part g.K.Sink _ _ _ _ _ _ c.from_residual-in_err-write_line-4.ensures.0 c.in_err-write_line-4.ensures)))

pub returns : goal.returns
unfolding size_lines
returns g c =
    adds_more g.K.Sink _ _ _ _ _ _ _ c.in_ok-write_line.ensures
    (adds_more g.K.Sink _ _ _ _ _ _ _ c.in_ok-write_line-2.ensures
    (adds_more g.K.Sink _ _ _ _ _ _ _ c.in_ok-write_line-3.ensures
    (adds_more g.K.Sink _ _ _ _ _ _ _ c.in_ok-write_line-4.ensures c.write_line-5.ensures)))
