-- what holds of the daemon between two operations, whatever the words were that it found
use Rattle.std.specs.Prelude.{◌≡◌, ℕ, ◌≤◌, List, Option, IfSome, IsSome, IsTrue, slice_index}
use Rattle.plat_base.specs.Machine.{Machine}
use Rattle.plat_base.specs.Rooms.{journal_rooms}
use Rattle.plat_base.specs.Rules.{has_daemon}
use Rattle.plat_events.specs.Privates.{Private}
use Rattle.plat_events.specs.Sessions.{Fault}
use Rattle.plat_base.specs.declared.words.Op.{Op}
use Rattle.plat_events.specs.Events.{next_of, after, thaw_of}
use Rattle.plat_events.specs.Shown.{IsReachedAlone}
use Rattle.plat_handler.specs.HandlerSeen.{HandlerSeen, HandlesOn}
use Rattle.plat_handler.specs.Stages.{Stage, Locks, Relocks, Runs, Rewaits, Returned, Changed, place_in}
use Rattle.plat_handler.specs.Phases.{answer_of}
use Rattle.plat_ports.specs.Ports.{IsEvent}
use Rattle.plat_daemon.specs.DaemonSeen.{DaemonSeen, state_of}

-- what the page of a handler is locked for
abbrev pub fault_in : Stage → Fault
fault_in (Locks fault) = fault
fault_in (Relocks fault) = fault
fault_in (Runs session) = session.fault
fault_in (Rewaits session) = session.fault
fault_in (Returned session) = session.fault
fault_in (Changed session course) = session.fault

-- the handler is the daemon's, in this pass, on the page that it has come to, and one of the machine
pub record IsSweeping (m : Machine) (x : DaemonSeen) (h : HandlerSeen) : Type 0 where
  pub actor : h.actor ≡ m.nodes
  pub now : h.now ≡ x.now
  pub page : fault_in h.stage ≡ thaw_of x.page
  pub stands : IsSome (place_in h.stage)
  pub on : HandlesOn m h

-- the daemon of a machine, which its own operations have brought to where it stands, and whose journal has its room
pub record Fits (m : Machine) (x : DaemonSeen) : Type 0 where
  pub there : IsTrue (has_daemon m.policy)
  pub room : slice_index (journal_rooms m) m.nodes ≤ x.room
  pub alone : IsReachedAlone m (answer_of m) m.nodes (state_of m x)
  pub sweeping : IfSome x.handler (IsSweeping m x)

-- the place of the word of the next operation, and the operation
abbrev pub next_at : Machine → DaemonSeen → Option (ℕ × Op)
next_at m x = next_of m (answer_of m) m.nodes (state_of m x)

-- the private state once the next operation told n
abbrev pub told_to : Machine → DaemonSeen → ℕ → Private
told_to m x n = after m (answer_of m) m.nodes (state_of m x) n

-- one event leads from x to y, and changes the words, where they are told, as the event does
abbrev pub HasStepped : Machine → (x y : DaemonSeen) → (before now : Option (List ℕ)) → Type 0
HasStepped m x y before now = IsEvent m m.nodes (state_of m x) (state_of m y) before now
