-- how many items the journal of each actor may have, and journals as their contracts see them
use Rattle.std.specs.Prelude.{ℕ, ◌*◌, ◌/◌, nat_le, Bool, List, ◌++◌, map, length, replicate, Option, Some, None}
use Rattle.std.specs.Option.{option_to_list}
use Rattle.plat_base.specs.Roomy.{Roomy}
use Rattle.plat_base.specs.Machine.{Machine}
use Rattle.plat_base.specs.declared.policies.PolicyKind.{PolicyKind}
use Rattle.plat_base.specs.declared.policies.PolicyKind.TheVariants as policy
use Rattle.plat_base.specs.declared.items.Item.{Item}
use lib.Pointwise.{pointwise}

-- a turn makes at most one access or switch and one change, and a grant leads to at most two messages
abbrev pub processor_room : ℕ → ℕ
processor_room budget = 4 * budget

-- at each pass the daemon makes at most one item for each page
abbrev pub daemon_room : (nodes budget pages : ℕ) → PolicyKind → Option ℕ
daemon_room nodes budget pages policy.Place = None
daemon_room nodes budget pages policy.Replicate = None
daemon_room nodes budget pages (policy.Platinum t1 t2) = Some (nodes * budget / t2 * pages)

-- the room of each actor's journal: the processors', and then the daemon's where there is one
abbrev pub journal_rooms : Machine → List ℕ
journal_rooms m = replicate m.nodes (processor_room m.budget) ++ option_to_list (daemon_room m.nodes m.budget m.pages m.policy)

-- for each actor the room of its journal, and the journal
pub record JournalsSeen : Type 0 where
  pub rooms : List ℕ
  pub lists : List (List Item)

abbrev pub lists_seen : List (Roomy Item) → List (List Item)
lists_seen lists = map (λ (l : Roomy Item). l.items) lists

-- one journal for each room, none longer than its room
abbrev pub fit_rooms : List ℕ → List (List Item) → Bool
fit_rooms rooms lists = pointwise (λ room l. nat_le (length l) room) rooms lists
