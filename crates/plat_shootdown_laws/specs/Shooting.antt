-- the operations of shootdowns
use Rattle.std.specs.Prelude.{Bool, true, false}
use Rattle.plat_events.specs.Sessions.{Phase, Stamping, Seeking, Taking, Returning, Shooting, Filling, Reading, Copying, Giving, Storing}
use Rattle.plat_events.specs.Sessions.{Granting, Unlocking}
use Rattle.plat_events.specs.Privates.{Place, Polling, Looking, Applying, Ticking, Switching, Loading, Expecting, Exchanging, Locking}
use Rattle.plat_events.specs.Privates.{InSession, Leaving, Lessening, Gone, LiveLooking, TimeLooking, Over}

-- the next operation of a session at this phase is one of its shootdown
abbrev pub phase_shoots : Phase → Bool
phase_shoots Stamping = false
phase_shoots (Seeking st i) = false
phase_shoots (Taking st i seen) = false
phase_shoots Returning = false
phase_shoots (Shooting c shot) = true
phase_shoots (Filling c w) = false
phase_shoots (Reading c w) = false
phase_shoots (Copying c w seen) = false
phase_shoots (Giving c k) = false
phase_shoots (Storing c) = false
phase_shoots (Granting c) = false
phase_shoots (Unlocking c) = false

-- and of an actor at this place
abbrev pub shoots : Place → Bool
shoots (Polling onward) = false
shoots (Looking i moment onward) = false
shoots (Applying i message moment onward) = false
shoots Ticking = false
shoots (Switching space) = false
shoots Loading = false
shoots Expecting = false
shoots (Exchanging seen) = false
shoots (Locking fault) = false
shoots (InSession session) = phase_shoots session.phase
shoots (Leaving e) = false
shoots (Lessening e) = false
shoots (Gone e) = false
shoots LiveLooking = false
shoots TimeLooking = false
shoots Over = false
