-- what a guest prints from some turn on
use Rattle.std.specs.Prelude.{ℕ, zero, suc, List, [], ◌∷◌, drop, Option, Some, None}
use Rattle.plat_base.specs.Machine.{Machine}
use Rattle.plat_base.specs.GuestRun.{value_for, values_taken}
use Rattle.plat_base.specs.declared.guests.Want.{Want}
use Rattle.plat_base.specs.declared.guests.Want.TheVariants as want
use Rattle.plat_base.specs.declared.items.Kind.{Kind}
use Rattle.plat_guest.specs.GuestSeen.{GuestSeen, wanted_by, stepped}
use Rattle.plat_report.specs.declared.turns.Turn.{Turn}
use Rattle.plat_report.specs.declared.turns.Turn.TheVariants.{Stops, Quiet, Prints}

-- a guest between two turns, and the values that are left for its loads and fetch-and-adds
pub record RunSeen : Type 0 where
  pub guest : GuestSeen
  pub values : List ℕ

-- ---- one turn

-- an access goes on where its value is there
abbrev pub turn_with : Option ℕ → Turn
turn_with None = Stops
turn_with (Some value) = Quiet

abbrev pub turn_by : List ℕ → Want → Turn
turn_by values want.Local = Quiet
turn_by values (want.Access kind space addr operand) = turn_with (value_for kind values 0)
turn_by values (want.Switch space) = Quiet
turn_by values (want.Print value) = Prints value
turn_by values want.Halted = Stops
turn_by values want.Trap = Stops

-- what the run does on its next turn
abbrev pub turn_of : Machine → RunSeen → Turn
turn_of m run = turn_by run.values (wanted_by m run.guest)

abbrev pub gone_on : Machine → RunSeen → (value taken : ℕ) → RunSeen
gone_on m run value taken = record { guest = stepped m run.guest value; values = drop taken run.values }

abbrev pub gone_with : Machine → RunSeen → Kind → Option ℕ → RunSeen
gone_with m run kind None = run
gone_with m run kind (Some value) = gone_on m run value (values_taken kind)

abbrev pub gone_by : Machine → RunSeen → Want → RunSeen
gone_by m run want.Local = gone_on m run 0 0
gone_by m run (want.Access kind space addr operand) = gone_with m run kind (value_for kind run.values 0)
gone_by m run (want.Switch space) = gone_on m run 0 0
gone_by m run (want.Print value) = gone_on m run 0 0
gone_by m run want.Halted = run
gone_by m run want.Trap = run

-- the run after its next turn
abbrev pub gone : Machine → RunSeen → RunSeen
gone m run = gone_by m run (wanted_by m run.guest)

-- ---- the prints

abbrev pub printed_then : Turn → List ℕ → List ℕ
printed_then Stops later = []
printed_then Quiet later = later
printed_then (Prints value) later = value ∷ later

-- what the run prints on its next turns, as many as these
abbrev pub prints_from : Machine → RunSeen → ℕ → List ℕ
prints_from m run zero = []
prints_from m run (suc turns) = printed_then (turn_of m run) (prints_from m (gone m run) turns)
