-- after each operation the cache has its eight places, and each keeps a translation with the right of its access
use Rattle.std.proofs.Common.{◌≡◌, ℕ, zero, suc, Bool, true, false, List, [], ◌∷◌, Some, None, map, set, refl}
use Rattle.std.specs.Prelude.{◌==◌, Option, if◌then◌else◌}
use Rattle.std.specs.List.{list_all}
use Rattle.std.proofs.lemmas.Bool.{and_from, and_parts, cond_both}
use Rattle.std.proofs.lemmas.List.{length-map, length-set}
use Rattle.plat_base.specs.Machine.{Machine}
use Rattle.plat_base.specs.Cache.{serves_access}
use Rattle.plat_base.specs.Flat.{is_write}
use Rattle.plat_base.specs.GuestRun.{Reach, reach_of, want_of}
use Rattle.plat_base.specs.Messages.{removes_some}
use Rattle.plat_base.specs.Pages.{page_of}
use Rattle.plat_base.specs.declared.guests.Want.{Want}
use Rattle.plat_base.specs.declared.guests.Want.TheVariants as want
use Rattle.plat_base.specs.declared.items.Translation.{Translation}
use Rattle.plat_events.specs.Events.{entry_of, reach_now, vpage_of}
use Rattle.plat_events.specs.Privates.{Place, Polling, Looking, Applying, Ticking, Switching, Loading, Expecting, Exchanging, Locking}
use Rattle.plat_events.specs.Privates.{InSession, Leaving, Lessening, Gone, LiveLooking, TimeLooking, Over, Private}
use Rattle.plat_events.specs.Scans.{entry_scanned}
use Rattle.plat_events.specs.Sessions.{Course, Phase, Stamping, Seeking, Taking, Returning, Shooting, Filling, Reading, Copying, Giving}
use Rattle.plat_events.specs.Sessions.{Storing, Granting, Unlocking, Session, decision_of}
use Rattle.plat_handler.specs.Phases.{answer_of}
use Rattle.plat_pmap.specs.Slots.{AreSlots, filled, is_usable, place_of, slot_of, without_slot}
use Rattle.plat_pmap.specs.Translations.{translation_of, usable}
use Rattle.plat_pmap.specs.declared.atcs.Slot.{Slot}
use Rattle.plat_pmap.proofs.SlotLemmas.{is_usable-filled}
use Rattle.plat_proc.specs.Cached.{slots_at, slots_followed, slots_forgotten, slots_in, slots_looked, slots_ticked, slots_told}
use Rattle.plat_proc.specs.Cached.{without_slot_of}
use Rattle.plat_proc.specs.Followed.{is_told}
use Rattle.plat_proc.specs.ProcSeen.{ProcSeen}

-- ---- places that are emptied

usable-map :
    (f : Option Slot → Option Slot) → ((s : Option Slot) → is_usable s ≡ true → is_usable (f s) ≡ true) → (xs : List (Option Slot))
    → list_all is_usable xs ≡ true → list_all is_usable (map f xs) ≡ true
usable-map f k [] h = refl
usable-map f k (x ∷ xs) h =
    let both = and_parts (is_usable x) (list_all is_usable xs) h in
    and_from (is_usable (f x)) (list_all is_usable (map f xs)) (k x both.0) (usable-map f k xs both.1)

map-are :
    (f : Option Slot → Option Slot) → ((s : Option Slot) → is_usable s ≡ true → is_usable (f s) ≡ true) → (xs : List (Option Slot))
    → AreSlots xs → AreSlots (map f xs)
map-are f k xs h = record { eight = simp length-map h.eight; usable = usable-map f k xs h.usable }

emptied : (b : Bool) (s : Slot) → is_usable (Some s) ≡ true → is_usable (if b then None else Some s) ≡ true
emptied true s h = refl
emptied false s h = h

without-usable : (e : ℕ) (s : Option Slot) → is_usable s ≡ true → is_usable (without_slot e s) ≡ true
without-usable e None h = h
without-usable e (Some s) h = emptied (s.entry == e) s h

page-usable : (m : Machine) (page : ℕ) (s : Option Slot) → is_usable s ≡ true → is_usable (without_slot_of m page s) ≡ true
page-usable m page None h = h
page-usable m page (Some s) h = emptied (page_of m s.entry == page) s h

-- ---- a place that is filled

usable-set :
    (xs : List (Option Slot)) (i : ℕ) (s : Option Slot) → is_usable s ≡ true → list_all is_usable xs ≡ true
    → list_all is_usable (set xs i s) ≡ true
usable-set [] i s u h = refl
usable-set (x ∷ xs) zero s u h = and_from (is_usable s) (list_all is_usable xs) u (and_parts (is_usable x) (list_all is_usable xs) h).1
usable-set (x ∷ xs) (suc i) s u h =
    let both = and_parts (is_usable x) (list_all is_usable xs) h in
    and_from (is_usable x) (list_all is_usable (set xs i s)) both.0 (usable-set xs i s u both.1)

set-are : (xs : List (Option Slot)) (i : ℕ) (s : Option Slot) → is_usable s ≡ true → AreSlots xs → AreSlots (set xs i s)
set-are xs i s u h = record { eight = simp length-set h.eight; usable = usable-set xs i s u h.usable }

filled-by :
    (entry vpage : ℕ) (writes : Bool) (o : Option Translation) (xs : List (Option Slot))
    → ((t : Translation) → o ≡ Some t → is_usable (Some (record { entry = entry; translation = t; written = writes })) ≡ true)
    → AreSlots xs → AreSlots (filled entry vpage writes o xs)
filled-by entry vpage writes None xs u h = h
filled-by entry vpage writes (Some t) xs u h =
    cond_both (serves_access entry writes (place_of (slot_of xs vpage))) xs _ AreSlots (λ _. h) (λ _. set-are xs _ _ (u t refl) h)

looked-are : (m : Machine) (p : Private) (r : Reach) (xs : List (Option Slot)) → AreSlots xs → AreSlots (slots_looked m p r xs)
looked-are m p r xs h =
    let t = translation_of p.pmap (entry_of m r) in
    filled-by (entry_of m r) (vpage_of m r) (is_write r.kind) (usable r.kind t) xs
    (λ u e. is_usable-filled r.kind t u (entry_of m r) (is_write r.kind) refl e) h

-- ---- each operation

ticked-are : (m : Machine) (p : Private) (xs : List (Option Slot)) (w : Want) → AreSlots xs → AreSlots (slots_ticked m p xs w)
ticked-are m p xs want.Local h = h
ticked-are m p xs (want.Access kind space addr operand) h = looked-are m p (reach_of m kind space addr operand) xs h
ticked-are m p xs (want.Switch space) h = h
ticked-are m p xs (want.Print value) h = h
ticked-are m p xs want.Halted h = h
ticked-are m p xs want.Trap h = h

forgotten-are :
    (m : Machine) (a : ℕ) (p : Private) (s : Session) (c : Course) (xs : List (Option Slot)) → AreSlots xs
    → AreSlots (slots_forgotten m a p s c xs)
forgotten-are m a p s c xs h =
    cond_both (removes_some (decision_of m (answer_of m) a p.now s c).removed) (map (without_slot_of m s.fault.page) xs) xs AreSlots
    (λ _. map-are (without_slot_of m s.fault.page) (page-usable m s.fault.page) xs h) (λ _. h)

session-are :
    (m : Machine) (a : ℕ) (p : Private) (s : Session) (xs : List (Option Slot)) (phase : Phase) → AreSlots xs
    → AreSlots (slots_in m a p s xs phase)
session-are m a p s xs Stamping h = h
session-are m a p s xs (Seeking st i) h = h
session-are m a p s xs (Taking st i seen) h = h
session-are m a p s xs Returning h = h
session-are m a p s xs (Shooting c shot) h = h
session-are m a p s xs (Filling c w) h = h
session-are m a p s xs (Reading c w) h = h
session-are m a p s xs (Copying c w seen) h = h
session-are m a p s xs (Giving c k) h = h
session-are m a p s xs (Storing c) h = h
session-are m a p s xs (Granting c) h = h
session-are m a p s xs (Unlocking c) h = looked-are m p (reach_now m a p) (slots_forgotten m a p s c xs) (forgotten-are m a p s c xs h)

place-are : (m : Machine) (a : ℕ) (p : Private) (xs : List (Option Slot)) (place : Place) → AreSlots xs → AreSlots (slots_at m a p xs place)
place-are m a p xs (Polling onward) h = h
place-are m a p xs (Looking i moment onward) h = h
place-are m a p xs (Applying i message moment onward) h =
    map-are (without_slot (entry_scanned m p i)) (without-usable (entry_scanned m p i)) xs h
place-are m a p xs Ticking h = ticked-are m p xs (want_of m a p.guest) h
place-are m a p xs (Switching space) h = record { eight = refl; usable = refl }
place-are m a p xs Loading h = h
place-are m a p xs Expecting h = h
place-are m a p xs (Exchanging seen) h = h
place-are m a p xs (Locking fault) h = h
place-are m a p xs (InSession s) h = session-are m a p s xs s.phase h
place-are m a p xs (Leaving e) h = h
place-are m a p xs (Lessening e) h = h
place-are m a p xs (Gone e) h = h
place-are m a p xs LiveLooking h = h
place-are m a p xs TimeLooking h = h
place-are m a p xs Over h = h

pub told-are : (m : Machine) (x : ProcSeen) (n : ℕ) → AreSlots x.slots → AreSlots (slots_told m x n)
told-are m x n h =
    cond_both (is_told m x n) (slots_followed m x) x.slots AreSlots (λ _. place-are m x.actor x.state x.slots x.state.place h) (λ _. h)
