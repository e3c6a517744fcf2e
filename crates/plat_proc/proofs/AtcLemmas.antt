-- the places that the count of hits and misses sees are those of the cache, after the operation of each place
use Rattle.std.proofs.Common.{◌≡◌, ℕ, ◌<◌, Bool, true, false, List, [], ◌∷◌, Some, None, refl, ap, sym, ◌∙◌, map, set}
use Rattle.std.specs.Prelude.{◌==◌, ◌%◌, ◌+◌, if◌then◌else◌, Option, slice_index_or}
use Rattle.std.proofs.lemmas.Bool.{cond_both, eqb-true}
use Rattle.std.proofs.lemmas.List.{map-set}
use Rattle.std.proofs.Math.ListN.{get_or-map}
use Rattle.plat_base.specs.Machine.{Machine}
use Rattle.plat_base.specs.Cache.{Cache, serves_access, without_entry, without_page}
use Rattle.plat_base.specs.Cache.{Place as CachePlace}
use Rattle.plat_base.specs.Flat.{is_write}
use Rattle.plat_base.specs.GuestRun.{Reach, reach_of, want_of}
use Rattle.plat_base.specs.Held.{has_right, serves}
use Rattle.plat_base.specs.Messages.{removes_some}
use Rattle.plat_base.specs.declared.guests.Want.{Want}
use Rattle.plat_base.specs.declared.guests.Want.TheVariants as want
use Rattle.plat_base.specs.declared.endings.End.TheVariants as end
use Rattle.plat_base.specs.declared.items.Translation.{Translation}
use Rattle.plat_events.specs.Sessions.{Phase, Stamping, Seeking, Taking, Returning, Shooting, Filling, Reading, Copying, Giving, Storing}
use Rattle.plat_events.specs.Sessions.{Granting, Unlocking, Session}
use Rattle.plat_events.specs.Shootdowns.{own_post}
use Rattle.plat_events.specs.Privates.{Place, Polling, Looking, Applying, Ticking, Switching, Loading, Expecting, Exchanging, Locking}
use Rattle.plat_events.specs.Privates.{InSession, Leaving, Lessening, Gone, LiveLooking, TimeLooking, Over, Private, translation_at}
use Rattle.plat_events.specs.Scans.{entry_scanned}
use Rattle.plat_events.specs.Events.{at, entry_of, vpage_of, reach_now, places_filled, look_up, turn_does, access_over, page_done, drop_own}
use Rattle.plat_events.specs.Events.{forget_page, session_moved, moved_at}
use Rattle.plat_events.specs.Sessions.{Course}
use Rattle.plat_base.specs.declared.items.Removed.{Removed}
use Rattle.plat_handler.specs.Phases.{answer_of}
use Rattle.plat_local_laws.proofs.PhaseLaws.{not_daemon}
use Rattle.plat_local_laws.specs.Standing.{PlaceOk}
use Rattle.plat_pmap.specs.Slots.{filled, place_of, places, slot_of, without_slot}
use Rattle.plat_pmap.specs.Translations.{usable}
use Rattle.plat_pmap.specs.declared.atcs.Slot.{Slot}
use Rattle.plat_proc.specs.Cached.{slots_at, slots_forgotten, slots_in, slots_looked, slots_ticked, without_slot_of}
use Rattle.plat_proc.proofs.GoesOnLemmas.{removed_by}
use Rattle.plat_pmap.proofs.SlotLemmas.{place_of-without}
use Rattle.plat_proc.proofs.ForgetLemmas.{place_of-page}

-- ---- places that are emptied

without-if :
    (b : Bool) (s : Slot)
    → place_of (if b then None else Some s) ≡ (if b then None else Some (record { entry = s.entry; written = s.written }))
without-if true s = refl
without-if false s = refl

places-without : (e : ℕ) (slots : List (Option Slot)) → map (without_entry e) (places slots) ≡ places (map (without_slot e) slots)
places-without e [] = refl
places-without e (x ∷ xs) = cc (place_of-without e x, places-without e xs)

places-without_page :
    (m : Machine) (page : ℕ) (slots : List (Option Slot))
    → map (without_page m page) (places slots) ≡ places (map (without_slot_of m page) slots)
places-without_page m page [] = refl
places-without_page m page (x ∷ xs) = cc (place_of-page m page x, places-without_page m page xs)

-- ---- a look-up

accessed-places : (b : Bool) (c d : Cache) → (if b then c else d).places ≡ (if b then c.places else d.places)
accessed-places true c d = refl
accessed-places false c d = refl

places-if : (b : Bool) (xs ys : List (Option Slot)) → (if b then places xs else places ys) ≡ places (if b then xs else ys)
places-if true xs ys = refl
places-if false xs ys = refl

places_filled-slots :
    (m : Machine) (atc : List (Option CachePlace)) (r : Reach) (t : Translation) (slots : List (Option Slot)) → atc ≡ places slots
    → places_filled m atc r ≡ places (filled (entry_of m r) (vpage_of m r) (is_write r.kind) (Some t) slots)
places_filled-slots m atc r t slots e =
    let new : Slot = record { entry = entry_of m r; translation = t; written = is_write r.kind } in
    let i = vpage_of m r % 8 in
    let hit = λ (o : Option CachePlace). serves_access (entry_of m r) (is_write r.kind) o in
    ap (λ ps. places_filled m ps r) e
    ∙ accessed-places (hit (slice_index_or (places slots) i None)) (record { places = places slots; hits = 0 + 1; misses = 0 })
    (record { places = set (places slots) i (place_of (Some new)); hits = 0; misses = 0 + 1 })
    ∙ ap (λ o. if hit o then places slots else set (places slots) i (place_of (Some new))) (get_or-map place_of slots i None)
    ∙ ap (λ ps. if hit (place_of (slot_of slots (vpage_of m r))) then places slots else ps) (sym (map-set place_of slots i (Some new)))
    ∙ places-if (hit (place_of (slot_of slots (vpage_of m r)))) slots (set slots i (Some new))

looked-places :
    (m : Machine) (atc : List (Option CachePlace)) (r : Reach) (o : Option Translation) (slots : List (Option Slot)) → atc ≡ places slots
    → (if has_right r.kind o then places_filled m atc r else atc)
    ≡ places (filled (entry_of m r) (vpage_of m r) (is_write r.kind) (usable r.kind o) slots)
looked-places m atc r None slots e = e
looked-places m atc r (Some t) slots e = by (serves r.kind t.grant.right)
  where
    by :
        (b : Bool)
        → (if b then places_filled m atc r else atc)
        ≡ places (filled (entry_of m r) (vpage_of m r) (is_write r.kind) (if b then Some t else None) slots)
    by true = places_filled-slots m atc r t slots e
    by false = e

ticked-places :
    (m : Machine) (a : ℕ) (p q : Private) (w : Want) (slots : List (Option Slot)) → q.pmap ≡ p.pmap → q.atc ≡ places slots
    → (turn_does m a q w).atc ≡ places (slots_ticked m p slots w)
ticked-places m a p q want.Local slots t e = e
ticked-places m a p q (want.Access k sp ad o) slots t e =
    let r = reach_of m k sp ad o in
    looked-places m q.atc r (translation_at q (entry_of m r)) slots e
    ∙ ap (λ pmap. places (filled (entry_of m r) (vpage_of m r) (is_write r.kind)
    (usable r.kind (slice_index_or pmap (entry_of m r) None)) slots)) t
ticked-places m a p q (want.Switch space) slots t e = e
ticked-places m a p q (want.Print v) slots t e = e
ticked-places m a p q want.Halted slots t e = e
ticked-places m a p q want.Trap slots t e = e

-- ---- sessions

dropped-places : (p : Private) (rem : Removed) (own : Option ℕ) → (drop_own p rem own).atc ≡ p.atc
dropped-places p rem None = refl
dropped-places p rem (Some e) = refl

forgotten-places :
    (m : Machine) (page : ℕ) (rem : Removed) (p : Private) (slots : List (Option Slot)) → p.atc ≡ places slots
    → (forget_page m page rem p).atc ≡ places (if removes_some rem then map (without_slot_of m page) slots else slots)
forgotten-places m page rem p slots e = by (removes_some rem)
  where
    by :
        (b : Bool)
        → (if b then map (without_page m page) p.atc else p.atc) ≡ places (if b then map (without_slot_of m page) slots else slots)
    by true = ap (map (without_page m page)) e ∙ places-without_page m page slots
    by false = e

unlocked-places :
    (m : Machine) (a : ℕ) (p : Private) (n : ℕ) (s : Session) (c : Course) (slots : List (Option Slot)) → a < m.nodes → p.atc ≡ places slots
    → (session_moved m (answer_of m) a p n s (Unlocking c)).atc ≡ places (slots_in m a p s slots (Unlocking c))
unlocked-places m a p n s c slots l e =
    let r = reach_now m a p in
    let rem = removed_by m (answer_of m) a p.now s c in
    let q = forget_page m s.fault.page rem p in
    cond_both (a == m.nodes) (page_done m p s.fault.page) (look_up m r q)
    (λ x. x.atc ≡ places (slots_looked m p r (slots_forgotten m a p s c slots)))
    (λ k. not_daemon m a l (eqb-true a m.nodes k))
    (λ _. looked-places m q.atc r (translation_at p (entry_of m r)) (slots_forgotten m a p s c slots)
    (forgotten-places m s.fault.page rem p slots e))

session-places :
    (m : Machine) (a : ℕ) (p : Private) (n : ℕ) (s : Session) (phase : Phase) (slots : List (Option Slot)) → a < m.nodes
    → p.atc ≡ places slots
    → (session_moved m (answer_of m) a p n s phase).atc ≡ places (slots_in m a p s slots phase)
session-places m a p n s Stamping slots l e = e
session-places m a p n s (Seeking st i) slots l e = e
session-places m a p n s (Taking st i seen) slots l e = e
session-places m a p n s Returning slots l e =
    cond_both (a == m.nodes) (page_done m p s.fault.page) (at p (Leaving end.NoFrames)) (λ x. x.atc ≡ places slots)
    (λ k. not_daemon m a l (eqb-true a m.nodes k)) (λ _. e)
session-places m a p n s (Shooting c shot) slots l e =
    dropped-places p (removed_by m (answer_of m) a p.now s c) (own_post m a s.fault.page c.posts n shot) ∙ e
session-places m a p n s (Filling c w) slots l e = e
session-places m a p n s (Reading c w) slots l e = e
session-places m a p n s (Copying c w seen) slots l e = e
session-places m a p n s (Giving c k) slots l e = e
session-places m a p n s (Storing c) slots l e = e
session-places m a p n s (Granting c) slots l e = e
session-places m a p n s (Unlocking c) slots l e = unlocked-places m a p n s c slots l e

-- ---- any place

pub places-moved :
    (m : Machine) (a : ℕ) (p : Private) (n : ℕ) (place : Place) (slots : List (Option Slot)) → a < m.nodes
    → PlaceOk m (answer_of m) a p place → p.atc ≡ places slots
    → (moved_at m (answer_of m) a p n place).atc ≡ places (slots_at m a p slots place)
places-moved m a p n (Polling onward) slots l k e = e
places-moved m a p n (Looking i moment onward) slots l k e = e
places-moved m a p n (Applying i msg moment onward) slots l k e =
    let entry = entry_scanned m p i in ap (map (without_entry entry)) e ∙ places-without entry slots
places-moved m a p n Ticking slots l k e =
    ticked-places m a p (record p { turns = p.turns + 1; now = n + 1 }) (want_of m a p.guest) slots refl e
places-moved m a p n (Switching space) slots l k e = refl
places-moved m a p n Loading slots l k e = e
places-moved m a p n Expecting slots l k e = e
places-moved m a p n (Exchanging seen) slots l k e =
    cond_both (n == seen) (access_over m a p n) (at p (Exchanging n)) (λ q. q.atc ≡ places slots) (λ _. e) (λ _. e)
places-moved m a p n (Locking fault) slots l k e = e
places-moved m a p n (InSession s) slots l k e = session-places m a p n s s.phase slots l e
places-moved m a p n (Leaving x) slots l k e = e
places-moved m a p n (Lessening x) slots l k e = e
places-moved m a p n (Gone x) slots l k e = e
places-moved m a p n LiveLooking slots l k e = e
places-moved m a p n TimeLooking slots l k e = not_daemon m a l k
places-moved m a p n Over slots l k e = e
