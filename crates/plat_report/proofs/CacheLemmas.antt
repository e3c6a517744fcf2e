-- the counts of a cache rise by at most one for each item
use Rattle.std.proofs.Common.{ℕ, ◌+◌, ◌<◌, ◌≤◌, ◌&&◌, Bool, true, false, List, [], ◌∷◌, length, take, map, arith, if◌then◌else◌, Option}
use Rattle.std.specs.Prelude.{◌==◌, ◌/◌, slice_index_or, ◌%◌, Some, None}
use Rattle.std.specs.List.{fold}
use Rattle.std.proofs.lemmas.List.{length-take}
use Rattle.plat_base.specs.Machine.{Machine}
use Rattle.plat_base.specs.Cache.{Cache, Place, cache_of, cache_after, cache_start, accessed, accessed_through, serves_access, with_places}
use Rattle.plat_base.specs.Cache.{without_page, without_entry, removes_any, no_places}
use Rattle.plat_base.specs.Pages.{entry_at}
use Rattle.plat_base.specs.Flat.{is_write}
use Rattle.plat_base.specs.declared.items.Item.{Item}
use Rattle.plat_base.specs.declared.items.Item.TheVariants as item
use Rattle.plat_report.specs.Counts.{most}

record IsNext (before after : Cache) : Type 0 where
  hits : after.hits ≤ before.hits + 1
  misses : after.misses ≤ before.misses + 1

IsNext-itself : (c : Cache) → IsNext c c
IsNext-itself c = record { hits = omega arith; misses = omega arith }

IsNext-if : (b : Bool) (c x y : Cache) → IsNext c x → IsNext c y → IsNext c (if b then x else y)
IsNext-if true c x y h k = h
IsNext-if false c x y h k = k

IsNext-accessed : (entry vpage : ℕ) (writes : Bool) (c : Cache) → IsNext c (accessed entry vpage writes c)
IsNext-accessed entry vpage writes c =
    IsNext-if (serves_access entry writes (slice_index_or c.places (vpage % 8) None)) c _ _
    (record { hits = omega arith; misses = omega arith }) (record { hits = omega arith; misses = omega arith })

IsNext-through : (entry : Option ℕ) (vpage : ℕ) (writes : Bool) (c : Cache) → IsNext c (accessed_through entry vpage writes c)
IsNext-through None vpage writes c = IsNext-itself c
IsNext-through (Some entry) vpage writes c = IsNext-accessed entry vpage writes c

IsNext-with_places : (c : Cache) (places : List (Option Place)) → IsNext c (with_places c places)
IsNext-with_places c places = record { hits = omega arith; misses = omega arith }

IsNext-after : (m : Machine) (q : ℕ) (c : Cache) (i : Item) → IsNext c (cache_after m q c i)
IsNext-after m q c (item.Access a) =
    IsNext-if (a.actor == q) c _ _ (IsNext-through (entry_at m a.space (a.addr / m.words)) (a.addr / m.words) (is_write a.kind) c)
    (IsNext-itself c)
IsNext-after m q c (item.Change x) =
    IsNext-if (x.actor == q && removes_any x) c _ _ (IsNext-with_places c (map (without_page m x.page) c.places)) (IsNext-itself c)
IsNext-after m q c (item.Applied x) = IsNext-if (x.actor == q) c _ _ (IsNext-with_places c (map (without_entry x.entry) c.places))
    (IsNext-itself c)
IsNext-after m q c (item.Switch s) = IsNext-if (s.actor == q) c _ _ (IsNext-with_places c no_places) (IsNext-itself c)

record IsWithin (before after : Cache) (n : ℕ) : Type 0 where
  hits : after.hits ≤ before.hits + n
  misses : after.misses ≤ before.misses + n

within-fold : (m : Machine) (q : ℕ) (c : Cache) (items : List Item) → IsWithin c (fold (cache_after m q) c items) (length items)
within-fold m q c [] = record { hits = omega arith; misses = omega arith }
within-fold m q c (i ∷ is) =
    let step = IsNext-after m q c i in
    let rest = within-fold m q (cache_after m q c i) is in
    record { hits = omega (arith, step.hits, rest.hits); misses = omega (arith, step.misses, rest.misses) }

pub cache_room : (m : Machine) (q : ℕ) (items : List Item) (i : ℕ) → i < length items → length items ≤ 2621440 →
    ((cache_of m (take i items) q).hits < most) × ((cache_of m (take i items) q).misses < most)
cache_room m q items i h few =
    let within = within-fold m q cache_start (take i items) in
    (omega (arith, within.hits, length-take {A = Item}), omega (arith, within.misses, length-take {A = Item}))
