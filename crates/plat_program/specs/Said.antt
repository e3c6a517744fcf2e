-- what a program says of a status: the number that it ends with, and the fault whose line it writes to standard error
use Rattle.std.specs.Prelude.{ℕ, Option, None, Some}
use Rattle.plat_base.specs.declared.statuses.Status.{Status}
use Rattle.plat_base.specs.declared.statuses.Status.TheVariants as status
use Rattle.plat_program.specs.declared.faults.Fault.{Fault}
use Rattle.plat_program.specs.declared.faults.Fault.TheVariants as fault

abbrev pub number : Status → ℕ
number status.Done = 0
number (status.HistoryBad bad) = 1
number (status.Refused refused) = 2
number status.NoFrames = 3
number status.Spent = 4
number status.EventLimit = 5
number status.ReadFault = 6
number status.WriteFault = 7
number status.OutOfMemory = 8
number status.BadWords = 9

abbrev pub said : Status → Option Fault
said status.Done = None
said (status.HistoryBad bad) = Some (fault.History bad.item bad.rule)
said (status.Refused refused) = Some (fault.Refused refused.line refused.column refused.why)
said status.NoFrames = Some fault.NoFrames
said status.Spent = Some fault.Spent
said status.EventLimit = Some fault.EventLimit
said status.ReadFault = Some fault.ReadFault
said status.WriteFault = Some fault.WriteFault
said status.OutOfMemory = Some fault.OutOfMemory
said status.BadWords = Some fault.BadWords
