-- whether an item may stand next, by counts of what is placed and of what is still to come
use Rattle.std.specs.Prelude.{ℕ, ◌+◌, ◌==◌, nat_lt, nat_le, ◌&&◌, not, if◌then◌else◌, Bool, true, List, count_by}
use Rattle.plat_base.specs.Flat.{is_write, flat_writes}
use Rattle.plat_base.specs.Items.{is_access_that, is_change_that}
use Rattle.plat_base.specs.Directories.{seq_of}
use Rattle.plat_base.specs.declared.items.Removed.{Removed}
use Rattle.plat_base.specs.declared.items.Removed.TheVariants as removed
use Rattle.plat_base.specs.declared.items.Access.{Access}
use Rattle.plat_base.specs.declared.items.Change.{Change}
use Rattle.plat_base.specs.declared.items.Item.{Item}
use Rattle.plat_base.specs.declared.items.Item.TheVariants as item

-- ---- which accesses are counted

abbrev pub is_load_of : (page word : ℕ) → Access → Bool
is_load_of page word a = not (is_write a.kind) && (a.page == page && a.word == word)

-- loads of a word: of a version up to this one, and of this version
abbrev pub is_load_up_to : (page word version : ℕ) → Item → Bool
is_load_up_to page word version i = is_access_that (λ a. is_load_of page word a && nat_le a.version version) i

abbrev pub is_load_at : (page word version : ℕ) → Item → Bool
is_load_at page word version i = is_access_that (λ a. is_load_of page word a && a.version == version) i

-- accesses of a page: by a grant below this number, and by the grant of this number
abbrev pub is_use_below : (page seq : ℕ) → Item → Bool
is_use_below page seq i = is_access_that (λ a. a.page == page && nat_lt a.grant seq) i

abbrev pub is_use_at : (page seq : ℕ) → Item → Bool
is_use_at page seq i = is_access_that (λ a. a.page == page && a.grant == seq) i

-- of those, the writes
abbrev pub is_write_below : (page seq : ℕ) → Item → Bool
is_write_below page seq i = is_access_that (λ a. is_write a.kind && a.page == page && nat_lt a.grant seq) i

abbrev pub is_write_at : (page seq : ℕ) → Item → Bool
is_write_at page seq i = is_access_that (λ a. is_write a.kind && a.page == page && a.grant == seq) i

-- a change of the page
abbrev pub changes_page : ℕ → Item → Bool
changes_page page = is_change_that (λ c. c.page == page)

-- ---- the counts

-- the loads left of the versions that are placed
abbrev pub loads_waiting : (placed left : List Item) → (page word : ℕ) → ℕ
loads_waiting placed left page word = count_by (is_load_up_to page word (flat_writes placed page word)) left

-- the accesses left by the grants that are placed, and the writes among them
abbrev pub uses_waiting : (placed left : List Item) → (page : ℕ) → ℕ
uses_waiting placed left page = count_by (is_use_below page (seq_of placed page)) left

abbrev pub writes_waiting : (placed left : List Item) → (page : ℕ) → ℕ
writes_waiting placed left page = count_by (is_write_below page (seq_of placed page)) left

-- ---- what may stand next

-- a load has the last version that is placed; a write has the next one, and no load of the last one is left
abbrev pub may_access : (writes waiting changes : ℕ) → Access → Bool
may_access writes waiting changes a =
    nat_lt a.grant changes && (if is_write a.kind then a.version == writes + 1 && waiting == 0 else nat_le a.version writes)

-- a removal has nothing left to wait for
abbrev pub may_remove : (uses writing : ℕ) → Removed → Bool
may_remove uses writing removed.Nothing = true
may_remove uses writing removed.Writes = writing == 0
may_remove uses writing removed.All = uses == 0

abbrev pub may_change : (changes uses writing : ℕ) → Change → Bool
may_change changes uses writing c = c.seq == changes && may_remove uses writing c.removed

-- after these items, where those are left
abbrev pub may_stand : (placed left : List Item) → Item → Bool
may_stand placed left (item.Access a) =
    may_access (flat_writes placed a.page a.word) (loads_waiting placed left a.page a.word) (seq_of placed a.page) a
may_stand placed left (item.Change c) =
    may_change (seq_of placed c.page) (uses_waiting placed left c.page) (writes_waiting placed left c.page) c
may_stand placed left (item.Applied x) = true
may_stand placed left (item.Switch s) = true
