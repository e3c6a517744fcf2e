-- the places whose operation writes no word of a page, an entry, a pool or a frame, and leaves translations and sessions alone
use Rattle.std.specs.Prelude.{Bool, true, false}
use Rattle.plat_events.specs.Privates.{Place, Polling, Looking, Applying, Ticking, Switching, Loading, Expecting, Exchanging, Locking}
use Rattle.plat_events.specs.Privates.{InSession, Leaving, Lessening, Gone, LiveLooking, TimeLooking, Over}

abbrev pub is_outside : Place → Bool
is_outside (Polling onward) = true
is_outside (Looking i moment onward) = true
is_outside (Applying i message moment onward) = false
is_outside Ticking = true
is_outside (Switching space) = true
is_outside Loading = true
is_outside Expecting = true
is_outside (Exchanging seen) = false
is_outside (Locking fault) = false
is_outside (InSession session) = false
is_outside (Leaving end) = true
is_outside (Lessening end) = true
is_outside (Gone end) = true
is_outside LiveLooking = true
is_outside TimeLooking = true
is_outside Over = true
