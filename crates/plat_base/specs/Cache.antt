-- hits and misses of each processor's cache of translations, by its own items
use Rattle.std.specs.Prelude.{ℕ, ◌+◌, ◌/◌, ◌%◌, ◌==◌, ◌&&◌, ◌||◌, not, if◌then◌else◌, Bool, false, List, map, Option, Some, None, replicate}
use Rattle.std.specs.Prelude.{slice_index_or, slice_set}
use Rattle.std.specs.List.{fold}
use Rattle.plat_base.specs.Machine.{Machine}
use Rattle.plat_base.specs.Pages.{entry_at, page_of}
use Rattle.plat_base.specs.Flat.{is_write}
use Rattle.plat_base.specs.Held.{removes_all, removes_writes}
use Rattle.plat_base.specs.declared.items.Change.{Change}
use Rattle.plat_base.specs.declared.items.Item.{Item}
use Rattle.plat_base.specs.declared.items.Item.TheVariants as item

-- what a place of the cache keeps: the entry, and whether a write filled it
pub record Place : Type 0 where
  pub entry : ℕ
  pub written : Bool

pub record Cache : Type 0 where
  pub places : List (Option Place)
  pub hits : ℕ
  pub misses : ℕ

-- eight empty places
abbrev pub no_places : List (Option Place)
no_places = replicate 8 None

abbrev pub cache_start : Cache
cache_start = record { places = no_places; hits = 0; misses = 0 }

-- the place serves an access of its entry that is a load, or that a write filled it for
abbrev pub serves_access : (entry : ℕ) → (writes : Bool) → Option Place → Bool
serves_access entry writes None = false
serves_access entry writes (Some p) = p.entry == entry && (not writes || p.written)

abbrev pub with_places : Cache → List (Option Place) → Cache
with_places c places = record { places = places; hits = c.hits; misses = c.misses }

-- an access hits its place, or misses and fills it; virtual page v uses the place v modulo 8
abbrev pub accessed : (entry vpage : ℕ) → (writes : Bool) → Cache → Cache
accessed entry vpage writes c =
    if serves_access entry writes (slice_index_or c.places (vpage % 8) None)
    then record { places = c.places; hits = c.hits + 1; misses = c.misses }
    else record {
      places = slice_set c.places (vpage % 8) (Some (record { entry = entry; written = writes }));
      hits = c.hits;
      misses = c.misses + 1;
    }

-- an access through an entry; one without an entry is none of the cache's
abbrev pub accessed_through : Option ℕ → (vpage : ℕ) → Bool → Cache → Cache
accessed_through None vpage writes c = c
accessed_through (Some entry) vpage writes c = accessed entry vpage writes c

abbrev pub without_entry : ℕ → Option Place → Option Place
without_entry entry None = None
without_entry entry (Some p) = if p.entry == entry then None else Some p

abbrev pub without_page : Machine → ℕ → Option Place → Option Place
without_page m page None = None
without_page m page (Some p) = if page_of m p.entry == page then None else Some p

abbrev pub removes_any : Change → Bool
removes_any c = removes_all c.removed || removes_writes c.removed

-- the cache of processor q after an item
abbrev pub cache_after : Machine → ℕ → Cache → Item → Cache
cache_after m q c (item.Access a) =
    if a.actor == q then accessed_through (entry_at m a.space (a.addr / m.words)) (a.addr / m.words) (is_write a.kind) c else c
cache_after m q c (item.Change x) = if x.actor == q && removes_any x then with_places c (map (without_page m x.page) c.places) else c
cache_after m q c (item.Applied x) = if x.actor == q then with_places c (map (without_entry x.entry) c.places) else c
cache_after m q c (item.Switch s) = if s.actor == q then with_places c no_places else c

abbrev pub cache_of : Machine → List Item → ℕ → Cache
cache_of m items q = fold (cache_after m q) cache_start items
