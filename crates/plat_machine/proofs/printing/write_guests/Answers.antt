use Rattle.std.proofs.Common.{arith}
use Rattle.plat_machine.proofs.PrintLines.{adds_more}
use Rattle.plat_machine.proofs.PrintParts.{guest_lines-next}
use Rattle.plat_machine.proofs.printing.write_guests.Goals as goal

pub loop-guest-preserved : goal.loop-guest-preserved
loop-guest-preserved g c =
    let next = guest_lines-next c.args.guests.now c.loop-guest.guest-index c.guest-item.result (omega arith) c.guest-item.is
    in rw next (adds_more g.K.Sink _ _ _ _ _ _ _ c.loop-guest.invariant c.in_ok-write_guest.ensures)
