-- the journals of the actors merged into one history: each time the lowest actor whose next item is ready gives it
use Rattle.std.specs.Prelude.{ℕ, zero, suc, ◌==◌, nat_lt, nat_le, ◌&&◌, ◌||◌, not, if◌then◌else◌, Bool, false, List, [], ◌∷◌, sum_by}
use Rattle.std.specs.Prelude.{length, drop, Option, Some, None, slice_index_or, slice_set, slice_get}
use Rattle.std.specs.Option.{option_map_or}
use Rattle.std.specs.List.{list_any, position_from}
use Rattle.plat_base.specs.Flat.{is_write}
use Rattle.plat_base.specs.Held.{removes_all, removes_writes}
use Rattle.plat_base.specs.declared.items.Access.{Access}
use Rattle.plat_base.specs.declared.items.Change.{Change}
use Rattle.plat_base.specs.declared.items.Item.{Item}
use Rattle.plat_base.specs.declared.items.Item.TheVariants as item

-- ---- what has to stand before what

-- of one word: the writes up to the version that a load found, and all accesses of earlier versions before a write
abbrev pub comes_before_access : Access → Access → Bool
comes_before_access a b =
    a.page == b.page && a.word == b.word
    && (if is_write b.kind then nat_lt a.version b.version else is_write a.kind && nat_le a.version b.version)

-- of one page: the changes up to the one that granted the access
abbrev pub comes_before_use : Change → Access → Bool
comes_before_use c a = c.page == a.page && nat_le c.seq a.grant

-- of one page: the accesses by earlier grants before a change that removed all, and the writes before one that removed writes
abbrev pub comes_before_removal : Access → Change → Bool
comes_before_removal a c =
    a.page == c.page && nat_lt a.grant c.seq && (removes_all c.removed || (is_write a.kind && removes_writes c.removed))

abbrev pub comes_before_change : Change → Change → Bool
comes_before_change c d = c.page == d.page && nat_lt c.seq d.seq

-- the first item has to stand before the second, whoever made the two
abbrev pub comes_before : Item → Item → Bool
comes_before (item.Access a) (item.Access b) = comes_before_access a b
comes_before (item.Access a) (item.Change d) = comes_before_removal a d
comes_before (item.Access a) (item.Applied x) = false
comes_before (item.Access a) (item.Switch x) = false
comes_before (item.Change c) (item.Access b) = comes_before_use c b
comes_before (item.Change c) (item.Change d) = comes_before_change c d
comes_before (item.Change c) (item.Applied x) = false
comes_before (item.Change c) (item.Switch x) = false
comes_before (item.Applied x) (item.Access b) = false
comes_before (item.Applied x) (item.Change d) = false
comes_before (item.Applied x) (item.Applied y) = false
comes_before (item.Applied x) (item.Switch y) = false
comes_before (item.Switch x) (item.Access b) = false
comes_before (item.Switch x) (item.Change d) = false
comes_before (item.Switch x) (item.Applied y) = false
comes_before (item.Switch x) (item.Switch y) = false

-- ---- the merge; `left` has for each actor the items of its journal that are not placed

abbrev pub Journals : Type 0
Journals = List (List Item)

abbrev pub next_item : Journals → ℕ → Option Item
next_item left a = slice_get (slice_index_or left a []) 0

-- no item that is left has to stand before it
abbrev pub is_ready : Journals → Item → Bool
is_ready left i = not (list_any (λ journal. list_any (λ j. comes_before j i) journal) left)

abbrev pub has_ready : Journals → List Item → Bool
has_ready left journal = option_map_or (is_ready left) (slice_get journal 0) false

-- the lowest actor whose next item is ready
abbrev pub ready_actor : Journals → Option ℕ
ready_actor left = position_from (has_ready left) 0 left

abbrev pub items_left : Journals → ℕ
items_left left = sum_by (λ (journal : List Item). length journal) left

abbrev pub without_next : Journals → ℕ → Journals
without_next left a = slice_set left a (drop 1 (slice_index_or left a []))

abbrev pub placed_first : Option Item → List Item → List Item
placed_first None rest = []
placed_first (Some i) rest = i ∷ rest

abbrev pub merge_step : (Journals → List Item) → Journals → Option ℕ → List Item
merge_step more left None = []
merge_step more left (Some a) = placed_first (next_item left a) (more (without_next left a))

-- at most so many items are placed; it stops where no actor's next item is ready
abbrev pub merge_from : ℕ → Journals → List Item
merge_from zero left = []
merge_from (suc k) left = merge_step (λ rest. merge_from k rest) left (ready_actor left)

unfoldable pub merged : Journals → List Item
merged journals = merge_from (items_left journals) journals
