-- an actor of either kind, as its contracts see it
use Rattle.std.specs.Prelude.{◌≡◌, ℕ, ◌<◌, ◌≤◌, Bool, List, [], ◌∷◌, ◌++◌, map, length, Option, Some, None, slice_index}
use Rattle.std.specs.Option.{option_to_list}
use Rattle.plat_base.specs.Machine.{Machine}
use Rattle.plat_base.specs.declared.endings.Ended.{Ended}
use Rattle.plat_base.specs.declared.items.Item.{Item}
use Rattle.plat_events.specs.Privates.{Place, Over, Private, first_private, is_over}
use Rattle.plat_events.specs.Runs.{ended_by}
use Rattle.plat_proc.specs.Fits.{Fits as ProcessorFits}
use Rattle.plat_daemon.specs.DaemonSeen.{state_of}
use Rattle.plat_daemon.specs.Fits.{Fits as DaemonFits}
use Rattle.plat_table.specs.declared.actors.Part.{Part}
use Rattle.plat_table.specs.declared.actors.Part.TheVariants as part
use Rattle.plat_table.specs.declared.actors.Actor.{Actor}
use Rattle.plat_table.specs.Rule.{Held}

-- where an actor stands
abbrev pub place_in : Part → Place
place_in part.Nobody = Over
place_in (part.Processor x) = x.state.place
place_in (part.Daemon x) = x.place

abbrev pub journal_in : Part → List Item
journal_in part.Nobody = []
journal_in (part.Processor x) = x.state.journal
journal_in (part.Daemon x) = x.journal

-- how a processor ended
abbrev pub ended_in : Part → Option Ended
ended_in part.Nobody = None
ended_in (part.Processor x) = Some (ended_by x.state)
ended_in (part.Daemon x) = None

-- the private state of an actor
abbrev pub state_in : Machine → Part → Private
state_in m part.Nobody = record (first_private m 0) { place = Over }
state_in m (part.Processor x) = x.state
state_in m (part.Daemon x) = state_of m x

abbrev pub IsSomebody : Part → Type 0
IsSomebody part.Nobody = ⊥
IsSomebody (part.Processor x) = Unit {0}
IsSomebody (part.Daemon x) = Unit {0}

-- it is the actor a of the machine, which its own operations have brought to where it stands
abbrev pub PartFits : Machine → (a : ℕ) → Part → Type 0
PartFits m a part.Nobody = ⊥
PartFits m a (part.Processor x) = (x.actor ≡ a) × ProcessorFits m x
PartFits m a (part.Daemon x) = (a ≡ m.nodes) × DaemonFits m x

abbrev pub Fits : Machine → Actor → Type 0
Fits m x = PartFits m x.number x.part

-- its number, and its private state
abbrev pub held : Machine → Actor → Held
held m x = (x.number, state_in m x.part)

abbrev pub has_ended : Actor → Bool
has_ended x = is_over (place_in x.part)

-- the ends of the processors among them
abbrev pub ends_in : List Actor → List Ended
ends_in [] = []
ends_in (x ∷ xs) = option_to_list (ended_in x.part) ++ ends_in xs

abbrev pub journals_of : List Actor → List (List Item)
journals_of actors = map (λ (x : Actor). journal_in x.part) actors

-- its items are within the room of its journal
pub record HasRoomIn (rooms : List ℕ) (x : Actor) : Type 0 where
  pub somebody : IsSomebody x.part
  pub actor : x.number < length rooms
  pub room : length (journal_in x.part) ≤ slice_index rooms x.number
