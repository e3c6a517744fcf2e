-- a machine's history so far, and what it is to add items to it
use Rattle.std.specs.Prelude.{◌≡◌, ℕ, ◌+◌, ◌≤◌, List, ◌++◌, length}
use Rattle.plat_base.specs.Machine.{Machine}
use Rattle.plat_base.specs.declared.items.Item.{Item}
use Rattle.plat_base.specs.declared.limits.TheConstants.{MOST_ITEMS}
use Rattle.plat_chronicle.specs.Present.{PresentSeen, Shows}

-- a machine's history so far, and how many more items it takes without memory
pub record Chronicled : Type 0 where
  pub machine : Machine
  pub items : List Item
  pub spare : ℕ

-- the most items of a history
abbrev pub most_items : ℕ
most_items = MOST_ITEMS

-- there is room for these items
pub record HasRoom (before : Chronicled) (more : List Item) : Type 0 where
  pub spare : length more ≤ before.spare
  pub few : length before.items + length more ≤ most_items

-- these items were added, each in one spare place, and nothing else changed
pub record HasAdded (before after : Chronicled) (more : List Item) : Type 0 where
  pub machine : after.machine ≡ before.machine
  pub items : after.items ≡ before.items ++ more
  pub spare : after.spare + length more ≡ before.spare

-- the present that is kept is that of the items, of which there are few enough
pub record Follows (m : Machine) (items : List Item) (present : PresentSeen) : Type 0 where
  pub few : length items ≤ most_items
  pub shows : Shows m items present
