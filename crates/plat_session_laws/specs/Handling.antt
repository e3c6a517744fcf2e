-- the places whose operation locks a page, loads or stores its stamp, grants, or unlocks the page as it was
use Rattle.std.specs.Prelude.{Bool, true, false}
use Rattle.plat_events.specs.Sessions.{Phase, Stamping, Seeking, Taking, Returning, Shooting, Filling, Reading, Copying, Giving, Storing}
use Rattle.plat_events.specs.Sessions.{Granting, Unlocking}
use Rattle.plat_events.specs.Privates.{Place, Polling, Looking, Applying, Ticking, Switching, Loading, Expecting, Exchanging, Locking}
use Rattle.plat_events.specs.Privates.{InSession, Leaving, Lessening, Gone, LiveLooking, TimeLooking, Over}

abbrev pub phase_handles_page : Phase → Bool
phase_handles_page Stamping = true
phase_handles_page (Seeking st i) = false
phase_handles_page (Taking st i seen) = false
phase_handles_page Returning = true
phase_handles_page (Shooting c shot) = false
phase_handles_page (Filling c w) = false
phase_handles_page (Reading c w) = false
phase_handles_page (Copying c w seen) = false
phase_handles_page (Giving c k) = false
phase_handles_page (Storing c) = true
phase_handles_page (Granting c) = true
phase_handles_page (Unlocking c) = false

abbrev pub handles_page : Place → Bool
handles_page (Polling onward) = false
handles_page (Looking i moment onward) = false
handles_page (Applying i message moment onward) = false
handles_page Ticking = false
handles_page (Switching space) = false
handles_page Loading = false
handles_page Expecting = false
handles_page (Exchanging seen) = false
handles_page (Locking fault) = true
handles_page (InSession session) = phase_handles_page session.phase
handles_page (Leaving end) = false
handles_page (Lessening end) = false
handles_page (Gone end) = false
handles_page LiveLooking = false
handles_page TimeLooking = false
handles_page Over = false
