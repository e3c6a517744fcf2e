use Rattle.std.proofs.Common.{take, Ok}
use Rattle.std.specs.List.{flat_map}
use Rattle.plat_io.specs.declared.faults.WriteFault.{WriteFault}
use Rattle.plat_io.specs.Adds.{Adds}
use Rattle.plat_io.specs.Lines.{text}
use Rattle.plat_machine.specs.Printed.{guest_lines}
use Rattle.plat_machine.proofs.printing.write_guests.Given as goal

-- the lines of the guests before `guest` were added
abbrev pub invariant-loop-guest : goal.invariant-loop-guest
invariant-loop-guest g l =
    Adds {E = WriteFault} g.K.Sink l.fn.sink l.sink (Ok (tt {0})) (text (flat_map guest_lines (take l.guest-index l.guests)))
