-- the places of the cache after a write of one, and what the count of hits and misses sees of them
use Rattle.std.proofs.Common.{◌≡◌, ℕ, ◌<◌, List, [], ◌∷◌, length, map, take, drop, ◌++◌, ◌+◌, set, get_or, zero, suc, refl, arith, ap, ◌∙◌}
use Rattle.std.specs.Prelude.{IsTrue, Bool, true, false, if◌then◌else◌, ◌%◌, Option, Some, None}
use Rattle.std.specs.List.{list_all, refill}
use Rattle.std.proofs.lemmas.Bool.Decides.{nat_tests}
use Rattle.std.proofs.lemmas.List.{length-set, length-map, map-set, get_or_default}
use Rattle.std.proofs.Math.ListN.{get_or-map}
use Rattle.std.proofs.lemmas.List.Edits.{map_over_more}
use Rattle.arrayvec.proofs.ArrayVecLemmas.{items-with_items}
use Rattle.plat_base.specs.Cache.{Cache, Place, accessed, serves_access, without_entry}
use Rattle.plat_base.specs.Flat.{is_write}
use Rattle.plat_base.specs.declared.items.Kind.{Kind}
use Rattle.plat_base.specs.declared.items.Kind.TheVariants.{Load, Store, Add}
use Rattle.plat_base.specs.declared.items.Translation.{Translation}
use Rattle.plat_pmap.specs.Translations.{usable}
use Rattle.plat_pmap.specs.declared.atcs.Slot.{Slot}
use Rattle.plat_pmap.specs.Slots.{AreSlots, is_usable, slot_of, kept, place_of, places, filled, counted, without_slot}

-- the places after a write through their slice, which keeps their number
refilled : (xs ys : List (Option Slot)) → length ys ≡ length xs → refill (length xs) xs ys ≡ ys
refilled xs ys e = items-with_items (record { items = xs }) ys e

usable-set : (xs : List (Option Slot)) (i : ℕ) (s : Option Slot) → IsTrue (is_usable s) → IsTrue (list_all is_usable xs) →
    IsTrue (list_all is_usable (set xs i s))
usable-set [] i s u h = h
usable-set (x ∷ xs) zero s u h = grind (arith, nat_tests)
usable-set (x ∷ xs) (suc i) s u h = grind (arith, nat_tests, usable-set xs i s)

-- what fills a place is usable as the access used it
pub is_usable-filled : (kind : Kind) (found : Option Translation) (t : Translation) (entry : ℕ) (writes : Bool) → writes ≡ is_write kind →
    usable kind found ≡ Some t → IsTrue (is_usable (Some (record { entry = entry; translation = t; written = writes })))
is_usable-filled Load found t entry writes w u = grind (arith, nat_tests)
is_usable-filled Store None t entry writes w u = absurd cc
is_usable-filled Store (Some f) t entry writes w u = grind (arith, nat_tests)
is_usable-filled Add None t entry writes w u = absurd cc
is_usable-filled Add (Some f) t entry writes w u = grind (arith, nat_tests)

pub AreSlots-set : (xs ys : List (Option Slot)) (i : ℕ) (s : Option Slot) → ys ≡ xs → IsTrue (is_usable s) → AreSlots xs →
    AreSlots (refill (length xs) xs (set ys i s))
AreSlots-set xs ys i s e u h =
    rw (e, refilled xs (set xs i s) (simp length-set)) (record { eight = simp length-set h.eight; usable = usable-set xs i s u h.usable })

-- ---- without an entry

usable-without : (entry : ℕ) (s : Option Slot) → IsTrue (is_usable s) → IsTrue (is_usable (without_slot entry s))
usable-without entry None h = refl
usable-without entry (Some s) h = grind (arith, nat_tests)

usable-map : (entry : ℕ) (xs : List (Option Slot)) → IsTrue (list_all is_usable xs) →
    IsTrue (list_all is_usable (map (without_slot entry) xs))
usable-map entry [] h = refl
usable-map entry (x ∷ xs) h = grind (arith, nat_tests, usable-without entry x, usable-map entry xs)

without-refilled : (entry : ℕ) (xs ys : List (Option Slot)) → ys ≡ map (without_slot entry) xs →
    refill (length xs) xs ys ≡ map (without_slot entry) xs
without-refilled entry xs ys e = rw e (refilled xs (map (without_slot entry) xs) (simp length-map))

pub AreSlots-without : (entry : ℕ) (xs ys : List (Option Slot)) → ys ≡ map (without_slot entry) xs → AreSlots xs →
    AreSlots (refill (length xs) xs ys)
AreSlots-without entry xs ys e h =
    rw (without-refilled entry xs ys e) (record { eight = simp length-map h.eight; usable = usable-map entry xs h.usable })

-- one more place of a walk that empties those of an entry
pub without-more : (entry : ℕ) (xs ys : List (Option Slot)) (i : ℕ) (y : Option Slot) → i < length xs → length ys ≡ length xs →
    ys ≡ map (without_slot entry) (take i xs) ++ drop i xs → y ≡ without_slot entry (get_or ys i None) →
    set ys i y ≡ map (without_slot entry) (take (i + 1) xs) ++ drop (i + 1) xs
without-more entry xs ys i y l n e w =
    let here : i < length ys = omega arith in
    rw w (map_over_more (without_slot entry) xs ys i (get_or ys i None) l e (get_or_default ys i None (get_or ys i None) here))

pub place_of-without : (entry : ℕ) (s : Option Slot) → place_of (without_slot entry s) ≡ without_entry entry (place_of s)
place_of-without entry None = refl
place_of-without entry (Some s) = grind (arith, nat_tests)

places-map : (entry : ℕ) (xs : List (Option Slot)) → places (map (without_slot entry) xs) ≡ map (without_entry entry) (places xs)
places-map entry [] = refl
places-map entry (x ∷ xs) = cc (place_of-without entry x, places-map entry xs)

pub places-without : (entry : ℕ) (xs ys : List (Option Slot)) → ys ≡ map (without_slot entry) xs → places (refill (length xs) xs ys)
    ≡ map (without_entry entry) (places xs)
places-without entry xs ys e = rw (without-refilled entry xs ys e) (places-map entry xs)

-- ---- the count of hits and misses

by_hit : (hit : Bool) (c : Cache) (ps qs : List (Option Place)) →
    (if hit then record { places = ps; hits = c.hits + 1; misses = c.misses }
    else record { places = qs; hits = c.hits; misses = c.misses + 1 }) ≡ counted hit (if hit then ps else qs) c
by_hit true c ps qs = refl
by_hit false c ps qs = refl

places-if : (hit : Bool) (xs ys : List (Option Slot)) → places (if hit then xs else ys) ≡ (if hit then places xs else places ys)
places-if true xs ys = refl
places-if false xs ys = refl

places-filled : (entry vpage : ℕ) (writes : Bool) (t : Translation) (slots : List (Option Slot)) →
    places (filled entry vpage writes (Some t) slots)
    ≡ (if serves_access entry writes (place_of (slot_of slots vpage)) then places slots
    else set (places slots) (vpage % 8) (Some (record { entry = entry; written = writes })))
places-filled entry vpage writes t slots =
    let hit = serves_access entry writes (place_of (slot_of slots vpage)) in
    places-if hit slots (set slots (vpage % 8) (Some (record { entry = entry; translation = t; written = writes })))
    ∙ ap (λ (qs : List (Option Place)). if hit then places slots else qs)
    (map-set place_of slots (vpage % 8) (Some (record { entry = entry; translation = t; written = writes })))

accessed-counted : (entry vpage : ℕ) (writes : Bool) (t : Translation) (slots : List (Option Slot)) (c : Cache) → c.places ≡ places slots →
    accessed entry vpage writes c ≡ counted (serves_access entry writes (place_of (slot_of slots vpage)))
    (places (filled entry vpage writes (Some t) slots)) c
accessed-counted entry vpage writes t slots c e =
    let at : get_or (places slots) (vpage % 8) None ≡ place_of (slot_of slots vpage) = get_or-map place_of slots (vpage % 8) None in
    rw (e, at, places-filled entry vpage writes t slots)
    (by_hit (serves_access entry writes (place_of (slot_of slots vpage))) c (places slots)
    (set (places slots) (vpage % 8) (Some (record { entry = entry; written = writes }))))

-- a place that answers nothing does not serve the access
served-none : (entry : ℕ) (writes : Bool) (s : Option Slot) (r : Option Translation) →
    r ≡ (if serves_access entry writes (place_of s) then kept s else None) → r ≡ None → serves_access entry writes (place_of s) ≡ false
served-none entry writes None r e n = refl
served-none entry writes (Some s) r e n = grind (arith, nat_tests)

pub accessed-missed : (entry vpage : ℕ) (writes : Bool) (t : Translation) (slots news : List (Option Slot)) (r : Option Translation) →
    r ≡ (if serves_access entry writes (place_of (slot_of slots vpage)) then kept (slot_of slots vpage) else None) → r ≡ None →
    news ≡ set slots (vpage % 8) (Some (record { entry = entry; translation = t; written = writes })) → (c : Cache) →
    c.places ≡ places slots → accessed entry vpage writes c ≡ counted false (places news) c
accessed-missed entry vpage writes t slots news r s n w c e =
    let missed = served-none entry writes (slot_of slots vpage) r s n in
    rw w (rw missed at (accessed-counted entry vpage writes t slots c e))
