-- the places whose operation unlocks a page with a change
use Rattle.std.specs.Prelude.{Bool, true, false}
use Rattle.plat_events.specs.Sessions.{Phase, Stamping, Seeking, Taking, Returning, Shooting, Filling, Reading, Copying, Giving, Storing}
use Rattle.plat_events.specs.Sessions.{Granting, Unlocking}
use Rattle.plat_events.specs.Privates.{Place, Polling, Looking, Applying, Ticking, Switching, Loading, Expecting, Exchanging, Locking}
use Rattle.plat_events.specs.Privates.{InSession, Leaving, Lessening, Gone, LiveLooking, TimeLooking, Over}

abbrev pub phase_unlocks_changed : Phase → Bool
phase_unlocks_changed Stamping = false
phase_unlocks_changed (Seeking st i) = false
phase_unlocks_changed (Taking st i seen) = false
phase_unlocks_changed Returning = false
phase_unlocks_changed (Shooting c shot) = false
phase_unlocks_changed (Filling c w) = false
phase_unlocks_changed (Reading c w) = false
phase_unlocks_changed (Copying c w seen) = false
phase_unlocks_changed (Giving c k) = false
phase_unlocks_changed (Storing c) = false
phase_unlocks_changed (Granting c) = false
phase_unlocks_changed (Unlocking c) = true

abbrev pub unlocks_changed : Place → Bool
unlocks_changed (Polling onward) = false
unlocks_changed (Looking i moment onward) = false
unlocks_changed (Applying i message moment onward) = false
unlocks_changed Ticking = false
unlocks_changed (Switching space) = false
unlocks_changed Loading = false
unlocks_changed Expecting = false
unlocks_changed (Exchanging seen) = false
unlocks_changed (Locking fault) = false
unlocks_changed (InSession session) = phase_unlocks_changed session.phase
unlocks_changed (Leaving end) = false
unlocks_changed (Lessening end) = false
unlocks_changed (Gone end) = false
unlocks_changed LiveLooking = false
unlocks_changed TimeLooking = false
unlocks_changed Over = false
