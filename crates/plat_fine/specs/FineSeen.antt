-- a run of single operations as its contracts see it, and what it keeps
use Rattle.std.specs.Prelude.{◌≡◌, ℕ, ◌+◌, ◌<◌, ◌≤◌, not, Bool, false, List, [], length, sum_by, Option, Some, None, slice_get}
use Rattle.std.specs.List.{sum}
use Rattle.std.specs.Option.{option_map_or}
use Rattle.plat_base.specs.Machine.{Machine}
use Rattle.plat_base.specs.Verdicts.{policy_answer}
use Rattle.plat_base.specs.Roomy.{Roomy}
use Rattle.plat_base.specs.declared.endings.End.TheVariants as end
use Rattle.plat_base.specs.Rooms.{journal_rooms}
use Rattle.plat_base.specs.Rules.{has_daemon}
use Rattle.plat_base.specs.declared.endings.Ended.{Ended as EndedBy}
use Rattle.plat_base.specs.declared.items.Item.{Item}
use Rattle.plat_events.specs.Places.{word_count}
use Rattle.plat_events.specs.Privates.{Private, is_over}
use Rattle.plat_events.specs.Runs.{Fine, ends_of, event}
use Rattle.plat_proc.specs.ProcSeen.{ProcSeen}
use Rattle.plat_fine.specs.Crew.{IsCrew, states}
use Rattle.plat_daemon.specs.DaemonSeen.{DaemonSeen}
use Rattle.plat_daemon.specs.Fits.{Fits as DaemonFits}

pub record FineSeen : Type 0 where
  pub machine : Machine
  pub fine : Fine

-- the actor is there, and has not ended
abbrev pub is_live : List Private → ℕ → Bool
is_live privates a = option_map_or (λ (p : Private). not (is_over p.place)) (slice_get privates a) false

-- the state after the next event of an actor
abbrev pub event_in : FineSeen → (actor : ℕ) → Fine
event_in s actor = event s.machine (policy_answer s.machine.policy) s.fine actor

abbrev pub cut_first : EndedBy
cut_first = record { end = end.Cut; turns = 0 }

-- the items of a list and those that it still takes without memory
abbrev pub room_of : Roomy Item → ℕ
room_of list = length list.items + list.spare

-- there is room for an item, if one is made
abbrev pub HasRoomFor : Roomy Item → Option Item → Type 0
HasRoomFor list None = Unit {0}
HasRoomFor list (Some i) = 0 < list.spare

abbrev pub items_of : ProcSeen → ℕ
items_of x = length x.state.journal

abbrev pub items_swept : Option DaemonSeen → ℕ
items_swept None = 0
items_swept (Some x) = length x.journal

-- the daemon is there exactly where the policy has one
abbrev pub IsSwept : Machine → Option DaemonSeen → Type 0
IsSwept m None = has_daemon m.policy ≡ false
IsSwept m (Some x) = DaemonFits m x

-- what a run keeps
pub record RunsOn (m : Machine) (procs : List ProcSeen) (daemon : Option DaemonSeen) (words : List ℕ) (history : Roomy Item) : Type 0 where
  pub crew : IsCrew m procs
  pub all : length procs ≡ m.nodes
  pub swept : IsSwept m daemon
  pub word_each : length words ≡ word_count m
  pub items : length history.items ≡ sum_by items_of procs + items_swept daemon
  pub room : sum (journal_rooms m) ≤ room_of history

-- the ends so far, and room to hand them out
pub record HasEnds (m : Machine) (procs : List ProcSeen) (ends : List EndedBy) (handed : Roomy EndedBy) : Type 0 where
  pub so_far : ends ≡ ends_of m (states procs)
  pub empty : handed.items ≡ []
  pub room : m.nodes ≤ handed.spare
