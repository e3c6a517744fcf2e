-- what a page really cost: its accesses, by the distance of the copy that they went to, and the copies that were made of it
use Rattle.std.specs.Prelude.{◌≡◌, ℕ, ◌*◌, ◌==◌, nat_lt, ◌&&◌, ◌||◌, not, ◌<◌, ◌≤◌, if◌then◌else◌, Bool, true, false, List, length, sum_by}
use Rattle.std.specs.Prelude.{Option, Some, None, All}
use Rattle.std.specs.List.{filter_map}
use Rattle.std.specs.Option.{option_and_then}
use Rattle.plat_base.specs.Items.{access_of}
use Rattle.plat_base.specs.Machine.{Machine}
use Rattle.plat_base.specs.Pages.{distance}
use Rattle.plat_base.specs.Decide.{nearest}
use Rattle.plat_base.specs.declared.items.Action.{Action}
use Rattle.plat_base.specs.declared.items.Action.TheVariants as action
use Rattle.plat_base.specs.declared.items.Change.{Change}
use Rattle.plat_base.specs.declared.items.Item.{Item}
use Rattle.plat_base.specs.declared.items.Item.TheVariants as item

-- the action makes a copy from another one
abbrev pub makes_copy : Action → Bool
makes_copy action.Fill = false
makes_copy action.MapLocal = false
makes_copy action.MapRemote = false
makes_copy action.Replicate = true
makes_copy action.Migrate = true
makes_copy action.Collapse = false
makes_copy action.Thaw = false

-- a copy is fetched word by word from the nearest copy before the change
abbrev pub copy_cost : Machine → Change → ℕ
copy_cost m c = if makes_copy c.action then m.words * distance m c.actor (nearest m c.actor c.before.copies).module else 0

-- what an item cost a page
abbrev pub cost_of : Machine → ℕ → Item → ℕ
cost_of m page (item.Access a) = if a.page == page then distance m a.actor a.frame.module else 0
cost_of m page (item.Change c) = if c.page == page then copy_cost m c else 0
cost_of m page (item.Applied x) = 0
cost_of m page (item.Switch s) = 0

-- what a page cost
abbrev pub actual : Machine → List Item → ℕ → ℕ
actual m items page = sum_by (cost_of m page) items

abbrev pub actor_on : ℕ → Item → Option ℕ
actor_on page i = option_and_then (λ a. if a.page == page then Some a.actor else None) (access_of i)

-- the actors of a page's accesses
abbrev pub actors_on : List Item → ℕ → List ℕ
actors_on items page = filter_map (actor_on page) items

-- an access of the page is by a processor to a module of the machine; a copy of it is made by a processor, from one that
-- was there before
abbrev pub can_cost : Machine → ℕ → Item → Bool
can_cost m page (item.Access a) = not (a.page == page) || (nat_lt a.actor m.nodes && nat_lt a.frame.module m.nodes)
can_cost m page (item.Change c) =
    not (c.page == page && makes_copy c.action) || (nat_lt c.actor m.nodes && nat_lt 0 (length c.before.copies))
can_cost m page (item.Applied x) = true
can_cost m page (item.Switch s) = true

abbrev pub CanCost : Machine → ℕ → List Item → Type 0
CanCost m page items = All (λ i. can_cost m page i ≡ true) items

-- what a placement of each page of the machine needs: costs of its items, and no more accesses than turns
pub record CanPlace (m : Machine) (items : List Item) : Type 0 where
  pub costs : (page : ℕ) → page < m.pages → CanCost m page items
  pub few : (page : ℕ) → page < m.pages → length (actors_on items page) ≤ m.nodes * m.budget
