-- where a processor stands, as its code keeps it, and as the events have it
use Rattle.std.specs.Prelude.{◌≡◌, Bool, true, false, Option, Some, None, unwrap_or}
use Rattle.plat_handler.specs.HandlerSeen.{HandlerSeen, is_polling}
use Rattle.plat_handler.specs.Stages.{Stage, Locks, Relocks, Runs, Rewaits, Returned, Changed, place_in}
use Rattle.plat_proc.specs.declared.places.Onward.{Onward}
use Rattle.plat_proc.specs.declared.places.Onward.TheVariants as onward
use Rattle.plat_proc.specs.declared.places.Place.{Place}
use Rattle.plat_proc.specs.declared.places.Place.TheVariants as place
use Rattle.plat_events.specs.Privates as events

-- what a poll leads back to, where a fault's handler waits for it
abbrev pub waits_in : Stage → events.Onward
waits_in (Locks fault) = events.NewTurn
waits_in (Relocks fault) = events.Relock fault
waits_in (Runs session) = events.NewTurn
waits_in (Rewaits session) = events.Rewait session
waits_in (Returned session) = events.NewTurn
waits_in (Changed session course) = events.NewTurn

abbrev pub waits_for : Option HandlerSeen → events.Onward
waits_for None = events.NewTurn
waits_for (Some h) = waits_in h.stage

-- the place of a fault is that of its handler, until its session has ended
abbrev pub faults_at : Option HandlerSeen → events.Place
faults_at None = events.Ticking
faults_at (Some h) = unwrap_or (place_in h.stage) events.Ticking

abbrev pub onward_seen : Option HandlerSeen → Onward → events.Onward
onward_seen handler onward.NewTurn = events.NewTurn
onward_seen handler onward.TurnOver = events.TurnOver
onward_seen handler onward.Fault = waits_for handler

abbrev pub place_seen : Option HandlerSeen → Place → events.Place
place_seen handler (place.Polling o) = events.Polling (onward_seen handler o)
place_seen handler (place.Looking i moment o) = events.Looking i moment (onward_seen handler o)
place_seen handler (place.Applying i message moment o) = events.Applying i message moment (onward_seen handler o)
place_seen handler place.Ticking = events.Ticking
place_seen handler (place.Switching space) = events.Switching space
place_seen handler place.Loading = events.Loading
place_seen handler place.Expecting = events.Expecting
place_seen handler (place.Exchanging seen) = events.Exchanging seen
place_seen handler place.Faulting = faults_at handler
place_seen handler (place.Leaving e) = events.Leaving e
place_seen handler (place.Lessening e) = events.Lessening e
place_seen handler (place.Gone e) = events.Gone e

-- ---- a processor has a handler exactly where a fault is under way

-- the handler is there, and waits for a poll or not
abbrev pub Waits : (polls : Bool) → Option HandlerSeen → Type 0
Waits polls None = ⊥
Waits polls (Some h) = is_polling h.stage ≡ polls

abbrev pub WaitsWell : Option HandlerSeen → Onward → Type 0
WaitsWell handler onward.NewTurn = handler ≡ None
WaitsWell handler onward.TurnOver = handler ≡ None
WaitsWell handler onward.Fault = Waits true handler

abbrev pub HandlesWell : Option HandlerSeen → Place → Type 0
HandlesWell handler (place.Polling o) = WaitsWell handler o
HandlesWell handler (place.Looking i moment o) = WaitsWell handler o
HandlesWell handler (place.Applying i message moment o) = WaitsWell handler o
HandlesWell handler place.Ticking = handler ≡ None
HandlesWell handler (place.Switching space) = handler ≡ None
HandlesWell handler place.Loading = handler ≡ None
HandlesWell handler place.Expecting = handler ≡ None
HandlesWell handler (place.Exchanging seen) = handler ≡ None
HandlesWell handler place.Faulting = Waits false handler
HandlesWell handler (place.Leaving e) = handler ≡ None
HandlesWell handler (place.Lessening e) = handler ≡ None
HandlesWell handler (place.Gone e) = handler ≡ None

-- a fault's handler makes the next operation
abbrev pub is_faulting : events.Place → Bool
is_faulting (events.Polling onward) = false
is_faulting (events.Looking i moment onward) = false
is_faulting (events.Applying i message moment onward) = false
is_faulting events.Ticking = false
is_faulting (events.Switching space) = false
is_faulting events.Loading = false
is_faulting events.Expecting = false
is_faulting (events.Exchanging seen) = false
is_faulting (events.Locking fault) = true
is_faulting (events.InSession session) = true
is_faulting (events.Leaving e) = false
is_faulting (events.Lessening e) = false
is_faulting (events.Gone e) = false
is_faulting events.LiveLooking = false
is_faulting events.TimeLooking = false
is_faulting events.Over = false

-- the next operation is that of an access
abbrev pub is_access : events.Place → Bool
is_access (events.Polling onward) = false
is_access (events.Looking i moment onward) = false
is_access (events.Applying i message moment onward) = false
is_access events.Ticking = false
is_access (events.Switching space) = false
is_access events.Loading = true
is_access events.Expecting = true
is_access (events.Exchanging seen) = true
is_access (events.Locking fault) = false
is_access (events.InSession session) = false
is_access (events.Leaving e) = false
is_access (events.Lessening e) = false
is_access (events.Gone e) = false
is_access events.LiveLooking = false
is_access events.TimeLooking = false
is_access events.Over = false
