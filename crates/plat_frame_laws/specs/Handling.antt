-- the operations that handle frames: those that seek, take, fill, copy into and give back
use Rattle.std.specs.Prelude.{Bool, true, false}
use Rattle.plat_events.specs.Sessions.{Phase, Stamping, Seeking, Taking, Returning, Shooting, Filling, Reading, Copying, Giving, Storing}
use Rattle.plat_events.specs.Sessions.{Granting, Unlocking}
use Rattle.plat_events.specs.Privates.{Place, Polling, Looking, Applying, Ticking, Switching, Loading, Expecting, Exchanging, Locking}
use Rattle.plat_events.specs.Privates.{InSession, Leaving, Lessening, Gone, LiveLooking, TimeLooking, Over}

-- the next operation of a session at this phase is one on a pool or on a word of a frame
abbrev pub phase_handles : Phase → Bool
phase_handles Stamping = false
phase_handles (Seeking st i) = true
phase_handles (Taking st i seen) = true
phase_handles Returning = false
phase_handles (Shooting c shot) = false
phase_handles (Filling c w) = true
phase_handles (Reading c w) = true
phase_handles (Copying c w seen) = true
phase_handles (Giving c k) = true
phase_handles (Storing c) = false
phase_handles (Granting c) = false
phase_handles (Unlocking c) = false

-- and of an actor at this place
abbrev pub handles_frames : Place → Bool
handles_frames (Polling onward) = false
handles_frames (Looking i moment onward) = false
handles_frames (Applying i message moment onward) = false
handles_frames Ticking = false
handles_frames (Switching space) = false
handles_frames Loading = false
handles_frames Expecting = false
handles_frames (Exchanging seen) = false
handles_frames (Locking fault) = false
handles_frames (InSession session) = phase_handles session.phase
handles_frames (Leaving e) = false
handles_frames (Lessening e) = false
handles_frames (Gone e) = false
handles_frames LiveLooking = false
handles_frames TimeLooking = false
handles_frames Over = false
