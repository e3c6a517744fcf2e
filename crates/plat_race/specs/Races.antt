-- races of a history: what stands before what, which accesses conflict, and the first conflicting pair that has no order
use Rattle.std.specs.Prelude.{◌≡◌, ℕ, suc, ◌==◌, nat_lt, ◌&&◌, ◌||◌, not, Bool, true, false, List, [], ◌∷◌, ◌++◌, length, find, Option}
use Rattle.std.specs.Prelude.{Some, None, slice_index_or}
use Rattle.std.specs.Option.{option_map}
use Rattle.std.specs.List.{fold, list_any}
use Rattle.plat_base.specs.Pages.{numbers}
use Rattle.plat_base.specs.Flat.{is_write}
use Rattle.plat_base.specs.Items.{is_access_that}
use Rattle.plat_base.specs.declared.items.Kind.{Kind}
use Rattle.plat_base.specs.declared.items.Kind.TheVariants as kind
use Rattle.plat_base.specs.declared.items.Access.{Access}
use Rattle.plat_base.specs.declared.items.Item.{Item}
use Rattle.plat_base.specs.declared.items.Item.TheVariants as item
use Rattle.plat_race.specs.declared.pairs.Pair.{Pair}

-- ---- items by their places, which count all items from 0

abbrev pub no_item : Item
no_item = item.Switch (record { actor = 0; space = 0 })

-- the item at a place; past the end there is no access
abbrev pub item_at : List Item → ℕ → Item
item_at items i = slice_index_or items i no_item

-- both items are accesses, and the two pass the test
abbrev pub of_two : (Access → Access → Bool) → Item → Item → Bool
of_two test i j = is_access_that (λ a. is_access_that (test a) j) i

-- ---- two accesses

abbrev pub is_add : Kind → Bool
is_add kind.Load = false
is_add kind.Store = false
is_add kind.Add = true

abbrev pub same_cell : Access → Access → Bool
same_cell a b = a.page == b.page && a.word == b.word

-- they have one actor, or both are fetch-and-adds on one word of one page
abbrev pub is_linked : Access → Access → Bool
is_linked a b = a.actor == b.actor || (is_add a.kind && is_add b.kind && same_cell a b)

-- different actors access one word of one page, and one of them writes
abbrev pub is_conflict : Access → Access → Bool
is_conflict a b = not (a.actor == b.actor) && same_cell a b && (is_write a.kind || is_write b.kind)

-- ---- before

abbrev pub is_directly_before : List Item → (i j : ℕ) → Bool
is_directly_before items i j = nat_lt i j && of_two is_linked (item_at items i) (item_at items j)

-- what is before what: the transitive closure
pub data IsBefore (items : List Item) (i : ℕ) : ℕ → Type 0 where
  directly : {j : ℕ} → is_directly_before items i j ≡ true → IsBefore items i j
  by_way_of : {k j : ℕ} → IsBefore items i k → is_directly_before items k j ≡ true → IsBefore items i j

-- the same by computation: whether i is before j, where it is known for each place below j
abbrev pub is_next_before : List Item → ℕ → List Bool → ℕ → Bool
is_next_before items i known j =
    is_directly_before items i j || list_any (λ k. slice_index_or known k false && is_directly_before items k j) (numbers j)

-- for each place below n in turn, whether i is before it
abbrev pub befores : List Item → (i n : ℕ) → List Bool
befores items i n = fold (λ known j. known ++ is_next_before items i known j ∷ []) [] (numbers n)

unfoldable pub is_before : List Item → (i j : ℕ) → Bool
is_before items i j = slice_index_or (befores items i (suc j)) j false

-- ---- races

-- the accesses at two places conflict, and the earlier one is not before the later one
abbrev pub is_race : List Item → (i j : ℕ) → Bool
is_race items i j = nat_lt i j && of_two is_conflict (item_at items i) (item_at items j) && not (is_before items i j)

abbrev pub pair : ℕ → ℕ → Pair
pair i j = record { first = i; second = j }

-- of the races that end at a place, the one with the least first place
abbrev pub race_at : List Item → ℕ → Option Pair
race_at items j = option_map (λ i. pair i j) (find (λ i. is_race items i j) (numbers j))

abbrev pub or_later : Option Pair → Option Pair → Option Pair
or_later None later = later
or_later (Some found) later = Some found

-- the race with the least second place, and among those with the least first place
abbrev pub first_race : List Item → Option Pair
first_race items = fold (λ found j. or_later found (race_at items j)) None (numbers (length items))
