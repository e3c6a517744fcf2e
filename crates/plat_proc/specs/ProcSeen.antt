-- a processor as its contracts see it
use Rattle.std.specs.Prelude.{ℕ, Bool, true, false, List, Option}
use Rattle.plat_events.specs.Privates.{Onward, NewTurn, TurnOver, Relock, Rewait, Place, Polling, Looking, Applying, Ticking, Switching}
use Rattle.plat_events.specs.Privates.{Loading, Expecting, Exchanging, Locking, InSession, Leaving, Lessening, Gone, LiveLooking}
use Rattle.plat_events.specs.Privates.{TimeLooking, Over, Private}
use Rattle.plat_handler.specs.HandlerSeen.{HandlerSeen}
use Rattle.plat_pmap.specs.declared.atcs.Slot.{Slot}
use Rattle.plat_proc.specs.declared.procs.Stepped.{Stepped}
use Rattle.plat_proc.specs.declared.procs.Stepped.TheVariants.{More, Ended}

-- its number, its private state, how many items its journal may have, what its cache of translations keeps, and the handler
-- of the fault under way
pub record ProcSeen : Type 0 where
  pub actor : ℕ
  pub state : Private
  pub room : ℕ
  pub slots : List (Option Slot)
  pub handler : Option HandlerSeen

-- how an operation left it
abbrev pub stepped_to : Place → Stepped
stepped_to (Polling onward) = More
stepped_to (Looking i moment onward) = More
stepped_to (Applying i message moment onward) = More
stepped_to Ticking = More
stepped_to (Switching space) = More
stepped_to Loading = More
stepped_to Expecting = More
stepped_to (Exchanging seen) = More
stepped_to (Locking fault) = More
stepped_to (InSession session) = More
stepped_to (Leaving e) = More
stepped_to (Lessening e) = More
stepped_to (Gone e) = Ended e
stepped_to LiveLooking = More
stepped_to TimeLooking = More
stepped_to Over = More

-- the poll before a tick: a turn begins with it
abbrev pub begins : Onward → Bool
begins NewTurn = true
begins TurnOver = false
begins (Relock fault) = false
begins (Rewait session) = false

abbrev pub is_at_turn : Place → Bool
is_at_turn (Polling onward) = begins onward
is_at_turn (Looking i moment onward) = false
is_at_turn (Applying i message moment onward) = false
is_at_turn Ticking = false
is_at_turn (Switching space) = false
is_at_turn Loading = false
is_at_turn Expecting = false
is_at_turn (Exchanging seen) = false
is_at_turn (Locking fault) = false
is_at_turn (InSession session) = false
is_at_turn (Leaving e) = false
is_at_turn (Lessening e) = false
is_at_turn (Gone e) = false
is_at_turn LiveLooking = false
is_at_turn TimeLooking = false
is_at_turn Over = false
