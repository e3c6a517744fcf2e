-- lists of the same accesses in another order, and the numbers of the items that a search for races takes
use Rattle.std.specs.Prelude.{◌≡◌, ◌≢◌, ℕ, nat_lt, ◌&&◌, Bool, true, List, map, All, AllPairs, Contains}
use Rattle.plat_base.specs.Machine.{Machine}
use Rattle.plat_base.specs.Histories.{IsLegalMemory}
use Rattle.plat_base.specs.declared.items.Item.{Item}
use Rattle.plat_base.specs.declared.items.Item.TheVariants as item
use Rattle.plat_base.specs.Items.{is_access}
use Rattle.plat_race.specs.Races.{item_at, IsBefore}

-- the actor, the page and the word of an access are the machine's
abbrev pub is_in_range : Machine → Item → Bool
is_in_range m (item.Access a) = nat_lt a.actor m.nodes && nat_lt a.page m.pages && nat_lt a.word m.words
is_in_range m (item.Change c) = true
is_in_range m (item.Applied x) = true
is_in_range m (item.Switch s) = true

abbrev pub AreInRange : Machine → List Item → Type 0
AreInRange m items = (i : ℕ) → is_in_range m (item_at items i) ≡ true

-- the places of all accesses, each once, none behind one that it is before
pub record KeepsOrder (items : List Item) (places : List ℕ) : Type 0 where
  pub all : (i : ℕ) → is_access (item_at items i) ≡ true → Contains places i
  pub only : All (λ i. is_access (item_at items i) ≡ true) places
  pub kept : AllPairs (λ i j. (i ≢ j) × (IsBefore items j i → ⊥)) places

-- the items at these places
abbrev pub items_at : List Item → List ℕ → List Item
items_at items places = map (item_at items) places

-- where memory is legal, every list of the same accesses that keeps before is legal too
abbrev pub EveryOrderIsLegal : Machine → List Item → Type 0
EveryOrderIsLegal m items = IsLegalMemory m items → (places : List ℕ) → KeepsOrder items places → IsLegalMemory m (items_at items places)
