use Rattle.plat_machine.proofs.PrintLines.{adds_more, adds_part}
use Rattle.plat_history.proofs.LineLemmas.{canon_text-lines, history_text-lines}
use Rattle.plat_history.proofs.printing.write_history.Goals as goal

pub returns-in_err-write_line : goal.returns-in_err-write_line
returns-in_err-write_line g c = rw history_text-lines (adds_part g.K.Sink _ _ _ _ _ _ c.from_residual.ensures.0 c.in_err-write_line.ensures)

pub returns-in_err-print_machine : goal.returns-in_err-print_machine
returns-in_err-print_machine g c =
    rw history_text-lines
    (adds_more g.K.Sink _ _ _ _ _ _ _ c.in_ok-write_line.ensures
    (adds_part g.K.Sink _ _ _ _ _ _ c.from_residual-in_err-print_machine.ensures.0
    (rw canon_text-lines at c.in_err-print_machine.ensures.written)))

pub returns : goal.returns
returns g c =
    rw history_text-lines
    (adds_more g.K.Sink _ _ _ _ _ _ _ c.in_ok-write_line.ensures
    (adds_more g.K.Sink _ _ _ _ _ _ _ (rw canon_text-lines at c.in_ok-print_machine.ensures.written) c.write_told.ensures))
