-- the statuses of commands: which write nothing, and which follow from the ends of a run
use Rattle.std.specs.Prelude.{Bool, true, false, ◌&&◌, if◌then◌else◌, List, Option, None, Some}
use Rattle.std.specs.List.{list_any}
use Rattle.plat_base.specs.Alike.{same_end}
use Rattle.plat_base.specs.declared.endings.End.{End}
use Rattle.plat_base.specs.declared.endings.End.TheVariants as end
use Rattle.plat_base.specs.declared.endings.Ended.{Ended}
use Rattle.plat_base.specs.declared.faults.Refused.{Refused}
use Rattle.plat_base.specs.declared.statuses.Status.{Status}
use Rattle.plat_base.specs.declared.statuses.Status.TheVariants as status

-- some processor ended so
abbrev pub ends_as : End → List Ended → Bool
ends_as e ends = list_any (λ (x : Ended). same_end x.end e) ends

-- limit says that a run of single events made all the events that it may
abbrev pub status_of : List Ended → (limit : Bool) → Status
status_of ends limit =
    if limit && ends_as end.Cut ends then status.EventLimit
    else if ends_as end.NoFrames ends then status.NoFrames
    else if ends_as end.Spent ends then status.Spent
    else status.Done

-- with these statuses nothing is written, and no history is kept
abbrev pub is_silent : Status → Bool
is_silent status.Done = false
is_silent (status.HistoryBad bad) = true
is_silent (status.Refused refused) = true
is_silent status.NoFrames = false
is_silent status.Spent = false
is_silent status.EventLimit = false
is_silent status.ReadFault = true
is_silent status.WriteFault = false
is_silent status.OutOfMemory = true
is_silent status.BadWords = true

-- the refusal of a text, where the status is one
abbrev pub refusal_of : Status → Option Refused
refusal_of status.Done = None
refusal_of (status.HistoryBad bad) = None
refusal_of (status.Refused refused) = Some refused
refusal_of status.NoFrames = None
refusal_of status.Spent = None
refusal_of status.EventLimit = None
refusal_of status.ReadFault = None
refusal_of status.WriteFault = None
refusal_of status.OutOfMemory = None
refusal_of status.BadWords = None
