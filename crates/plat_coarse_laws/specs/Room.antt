-- how long a history can get: what each item is charged, and how much there is in so much time
use Rattle.std.specs.Prelude.{ℕ, ◌+◌, ◌*◌, ◌/◌, ◌≤◌, List, Option, Some, None, sum_by}
use Rattle.plat_base.specs.Machine.{Machine}
use Rattle.plat_base.specs.Ends.{time_of}
use Rattle.plat_base.specs.Coarse.{Coarse}
use Rattle.plat_base.specs.declared.policies.PolicyKind.{PolicyKind}
use Rattle.plat_base.specs.declared.policies.PolicyKind.TheVariants as policy
use Rattle.plat_base.specs.declared.items.Grant.{Grant}
use Rattle.plat_base.specs.declared.items.Item.{Item}
use Rattle.plat_base.specs.declared.items.Item.TheVariants as item

-- the daemon's passes in so much time
abbrev pub passes : PolicyKind → ℕ → ℕ
passes policy.Place time = 0
passes policy.Replicate time = 0
passes (policy.Platinum t1 t2) time = time / t2

-- a turn makes at most one access or switch and one change, and a grant leads to at most two messages; a pass makes at most
-- one change for each page
abbrev pub room_at : Machine → ℕ → ℕ
room_at m time = 4 * time + m.pages * passes m.policy time

-- the most items of a machine's history
abbrev pub room : Machine → ℕ
room m = room_at m (m.nodes * m.budget)

-- a change is charged for itself, and with a grant for the two messages that this may lead to
abbrev pub charge_of : Option Grant → ℕ
charge_of None = 1
charge_of (Some g) = 3

abbrev pub charge : Item → ℕ
charge (item.Access a) = 1
charge (item.Change c) = charge_of c.granted
charge (item.Applied x) = 0
charge (item.Switch s) = 1

abbrev pub charges : List Item → ℕ
charges items = sum_by charge items

-- the items so far are charged no more than there is in the time so far
abbrev pub IsRoomy : Machine → Coarse → Type 0
IsRoomy m s = charges s.history ≤ room_at m (time_of s.ends)
