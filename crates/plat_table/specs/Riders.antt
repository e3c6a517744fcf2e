-- a rider as its contracts see it, and what it does
use Rattle.std.specs.Prelude.{◌≡◌, ℕ, ◌+◌, ◌<◌, ◌≤◌, not, Bool, false, true, List, [], ◌∷◌, length, map, All, Option, Some, None, IsTrue}
use Rattle.std.specs.Prelude.{slice_get, slice_set}
use Rattle.plat_base.specs.Machine.{Machine, is_machine}
use Rattle.plat_base.specs.Verdicts.{policy_answer}
use Rattle.plat_base.specs.declared.words.Op.{Op}
use Rattle.plat_events.specs.Operations.{told}
use Rattle.plat_events.specs.Privates.{Private, actor_count, is_over}
use Rattle.plat_events.specs.Events.{next_of, after}
use Rattle.atomic_table.specs.Table.{Me}
use Rattle.atomic_table.specs.Seated.{TableId}
use Rattle.plat_table.specs.declared.actors.Actor.{Actor}
use Rattle.plat_table.specs.Actors.{Fits, held, state_in}
use Rattle.plat_table.specs.Rule.{Held, Known}

-- the board that it is of, the machine, and its actors with their private states
pub record RiderSeen : Type 0 where
  pub table_id : TableId
  pub machine : Machine
  pub crew : List Held

-- the shared words, whose rule no contract shows, and the machine
pub record BoardSeen : Type 0 where
  pub table_id : TableId
  pub machine : Machine

-- the rider is of this board
abbrev pub IsOf : RiderSeen → BoardSeen → Type 0
IsOf r b = (r.table_id ≡ b.table_id) × (r.machine ≡ b.machine)

-- ---- numbers

abbrev pub numbers_of : List Held → List ℕ
numbers_of crew = map (λ (h : Held). h.0) crew

-- they rise, from low on, and all are below high
abbrev pub Rise : (low high : ℕ) → List ℕ → Type 0
Rise low high [] = low ≤ high
Rise low high (a ∷ rest) = (low ≤ a) × Rise (a + 1) high rest

-- each of these is greater than each of those
abbrev pub AreBehind : (those these : List ℕ) → Type 0
AreBehind those these = All (λ a. All (λ b. a < b) these) those

-- ---- what a rider keeps

-- its actors are those of its seat, each as its own operations have brought it there
pub record Rides (m : Machine) (me : Me ℕ Known) (actors : List Actor) : Type 0 where
  pub limits : IsTrue (is_machine m)
  pub seat : me ≡ (record { machine = m; crew = map (held m) actors }, [])
  pub fit : All (Fits m) actors
  pub rise : Rise 0 (actor_count m) (numbers_of (map (held m) actors))

-- ---- what it does

abbrev pub is_live_in : Option Held → Bool
is_live_in None = false
is_live_in (Some h) = not (is_over h.1.place)

-- there is an actor at the place, and it has not ended
abbrev pub is_live_at : List Held → (at : ℕ) → Bool
is_live_at crew at = is_live_in (slice_get crew at)

-- one event of the actor h, which leads to the private state p: what follows from a number that its next operation can tell
pub record MakesEvent (m : Machine) (h : Held) (p : Private) : Type 0 where
  pub place : ℕ
  pub op : Op
  pub next : next_of m (policy_answer m.policy) h.0 h.1 ≡ Some (place, op)
  pub found : ℕ
  pub state : p ≡ after m (policy_answer m.policy) h.0 h.1 (told op found)

-- the actor at the place has made one event, and the others stay as they were
pub record HasStepped (x y : RiderSeen) (at : ℕ) : Type 0 where
  pub same : (y.table_id ≡ x.table_id) × (y.machine ≡ x.machine)
  pub before : Held
  pub there : slice_get x.crew at ≡ Some before
  pub now : Private
  pub event : MakesEvent x.machine before now
  pub crew : y.crew ≡ slice_set x.crew at (before.0, now)

-- the same of a seat, where the actor x has become y
pub record HasMoved (at : ℕ) (m : Machine) (before now : Me ℕ Known) (x y : Actor) : Type 0 where
  pub number : y.number ≡ x.number
  pub event : MakesEvent m (held m x) (state_in m y.part)
  pub seat : now ≡ (record { machine = m; crew = slice_set before.0.crew at (held m y) }, before.1)

-- every actor of the machine is there, and has ended
pub record AreOver (x : RiderSeen) : Type 0 where
  pub all : length x.crew ≡ actor_count x.machine
  pub over : All (λ (h : Held). is_over h.1.place ≡ true) x.crew
