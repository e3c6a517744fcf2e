-- look-ups of the cache: that of a tick, and that behind an unlock
use Rattle.std.proofs.Common.{◌≡◌, ℕ, ◌<◌, Bool, true, false, List, [], ◌∷◌, length, Some, None, refl, ap, sym, subst, ◌∙◌, inl, inr, zero}
use Rattle.std.proofs.Common.{suc, get_or, map}
use Rattle.std.specs.Prelude.{◌≢◌, ◌==◌, ◌/◌, ◌%◌, ◌&&◌, ◌||◌, not, is_some, Option, slice_get, slice_index_or, unwrap_or}
use Rattle.std.specs.Option.{option_map_or}
use Rattle.std.proofs.lemmas.Bool.{cond_both, cond-true, cases_Bool, eqb-true, eq-eqb, true≢false, and_right}
use Rattle.std.proofs.lemmas.Option.{slice_get-get_or}
use Rattle.plat_base.specs.Machine.{Machine}
use Rattle.plat_base.specs.Accesses.{right_of}
use Rattle.plat_base.specs.Cache.{serves_access}
use Rattle.plat_base.specs.Flat.{is_write}
use Rattle.plat_base.specs.GuestRun.{Reach}
use Rattle.plat_base.specs.Held.{has_right, serves}
use Rattle.plat_base.specs.Messages.{removes_some}
use Rattle.plat_base.specs.Pages.{no_entry, page_of}
use Rattle.plat_base.specs.declared.items.Removed.TheVariants as removed
use Rattle.plat_base.specs.declared.items.Translation.{Translation}
use Rattle.plat_laws.proofs.GuestLaws.{entry_at-found, IsReach-wanted}
use Rattle.plat_events.specs.Events.{entry_of, reach_now, vpage_of}
use Rattle.plat_events.specs.Kept.{session_of}
use Rattle.plat_events.specs.Privates.{Private, translation_at}
use Rattle.plat_events.specs.Sessions.{Course, Phase, Unlocking, Session, decision_of, entry_faulted, translation_made}
use Rattle.plat_events.specs.Standings.{course_of, unlocking_of}
use Rattle.plat_handler.specs.Phases.{answer_of}
use Rattle.plat_local_laws.specs.Faults.{IsFaultNow, WantsAccess}
use Rattle.plat_local_laws.proofs.TurnLaws.{reach_now-wanted}
use Rattle.plat_pmap.specs.Slots.{Agrees, filled, kept, place_of, slot_of}
use Rattle.plat_pmap.specs.Translations.{translation_of, usable}
use Rattle.plat_pmap.specs.declared.atcs.Slot.{Slot}
use Rattle.plat_proc.specs.Cached.{slots_forgotten, slots_looked, without_slot_of}
use Rattle.plat_proc.specs.Fits.{CacheFits, grants_by, removes_in, removes_of, vpage_in, vpage_of_entry}
use Rattle.plat_proc.proofs.GoesOnLemmas.{removed_by}
use Rattle.plat_proc.proofs.SlotFitsLemmas.{IsCurrent, AllCurrent, filled-current, slot-without_page}
use Rattle.plat_proc.proofs.SessionFitsLemmas.{removes}
use Rattle.plat_local_laws.proofs.CountLaws.{serves-cause}

-- ---- the virtual page of an access

vpage-at :
    (m : Machine) (e vpage : ℕ) → e < length m.entries → (slice_index_or m.entries e no_entry).vpage ≡ vpage
    → vpage_of_entry m e ≡ vpage
vpage-at m e vpage l h = ap vpage_in (slice_get-get_or m.entries e no_entry l) ∙ h

-- the entry that an access reaches is of its virtual page
pub vpage-reached :
    (m : Machine) (a : ℕ) (p : Private) → WantsAccess m a p
    → vpage_of_entry m (entry_of m (reach_now m a p)) ≡ vpage_of m (reach_now m a p)
vpage-reached m a p w =
    let r = reach_now m a p in
    let reach = IsReach-wanted m a p.guest r.kind r.space r.addr r.operand w in
    let at = entry_at-found m r.space (r.addr / m.words) (entry_of m r) reach.found in
    vpage-at m (entry_of m r) (vpage_of m r) at.below at.at_page

-- and of its page
pub page-reached :
    (m : Machine) (a : ℕ) (p : Private) → WantsAccess m a p
    → page_of m (entry_of m (reach_now m a p)) ≡ (reach_now m a p).page
page-reached m a p w =
    let r = reach_now m a p in sym (ap (λ (x : Reach). x.page) (reach_now-wanted m a p r.kind r.space r.addr r.operand w))

-- ---- the place of an access

-- a slot at a place, of that many
get_or-some : (slots : List (Option Slot)) (k : ℕ) (s : Slot) → get_or slots k None ≡ Some s → slice_get slots k ≡ Some (Some s)
get_or-some [] k s h = absurd cc
get_or-some (x ∷ xs) zero s h = ap Some h
get_or-some (x ∷ xs) (suc k) s h = get_or-some xs k s h

-- a slot that serves an access is of its entry
serving-entry :
    (e : ℕ) (writes : Bool) (s : Slot) → serves_access e writes (place_of (Some s)) ≡ true → s.entry ≡ e
serving-entry e writes s h = eqb-true s.entry e (first (s.entry == e) (not writes || s.written) h)
  where
    first : (b c : Bool) → (b && c) ≡ true → b ≡ true
    first true c h = refl
    first false c h = absurd cc

agrees-at :
    (m : Machine) (p : Private) (slots : List (Option Slot)) (e vpage : ℕ) (writes : Bool) (o : Option Slot)
    → slot_of slots vpage ≡ o → AllCurrent m p slots → serves_access e writes (place_of o) ≡ true → kept o ≡ translation_of p.pmap e
agrees-at m p slots e vpage writes None at h k = absurd cc
agrees-at m p slots e vpage writes (Some s) at h k =
    sym (ap (translation_at p) (sym (serving-entry e writes s k)) ∙ (h (vpage % 8) s (get_or-some slots (vpage % 8) s at)).current)

-- where every place is current, it agrees
pub current-agrees :
    (m : Machine) (p : Private) (slots : List (Option Slot)) (e vpage : ℕ) (writes : Bool) → AllCurrent m p slots
    → Agrees slots p.pmap e vpage writes
current-agrees m p slots e vpage writes h = λ k. agrees-at m p slots e vpage writes (slot_of slots vpage) refl h k

-- ---- a look-up

-- what it finds fills its place
looked-current :
    (m : Machine) (p : Private) (r : Reach) (slots : List (Option Slot)) (o : Option Translation)
    → translation_at p (entry_of m r) ≡ o → vpage_of_entry m (entry_of m r) ≡ vpage_of m r → AllCurrent m p slots
    → AllCurrent m p (filled (entry_of m r) (vpage_of m r) (is_write r.kind) (usable r.kind o) slots)
looked-current m p r slots None at e h = h
looked-current m p r slots (Some t) at e h =
    cond_both (serves r.kind t.grant.right) (Some t) None
    (λ found. AllCurrent m p (filled (entry_of m r) (vpage_of m r) (is_write r.kind) found slots))
    (λ _. filled-current m p (entry_of m r) (vpage_of m r) (is_write r.kind) t slots at e (λ _. h) (λ k s _ g. h k s g))
    (λ _. h)

-- of the access under way
pub ticked-current :
    (m : Machine) (a : ℕ) (p : Private) (slots : List (Option Slot)) → WantsAccess m a p → AllCurrent m p slots
    → AllCurrent m p (slots_looked m p (reach_now m a p) slots)
ticked-current m a p slots w h =
    let r = reach_now m a p in
    looked-current m p r slots (translation_at p (entry_of m r)) refl (vpage-reached m a p w) h

-- ---- the look-up behind an unlock

-- what holds of a processor whose unlock is next
pub record UnlocksOk (m : Machine) (a : ℕ) (p : Private) (s : Session) (c : Course) (slots : List (Option Slot)) : Type 0 where
  pub session : session_of p.place ≡ Some s
  pub unlocking : s.phase ≡ Unlocking c
  pub fault : IsFaultNow m a p s.fault
  pub granted :
      translation_at p (entry_faulted m s.fault)
      ≡ Some (translation_made m (answer_of m) a p.now s c (entry_faulted m s.fault))
  pub cache : CacheFits m a p slots

pub entry-faulted :
    (m : Machine) (a : ℕ) (p : Private) (s : Session) → IsFaultNow m a p s.fault
    → entry_faulted m s.fault ≡ entry_of m (reach_now m a p)
entry-faulted m a p s f = ap (λ (e : Option ℕ). unwrap_or e (length m.entries)) f.entry

pub page-faulted :
    (m : Machine) (a : ℕ) (p : Private) (s : Session) → IsFaultNow m a p s.fault
    → page_of m (entry_of m (reach_now m a p)) ≡ s.fault.page
page-faulted m a p s f = page-reached m a p f.wants ∙ sym f.page

removes-unlocking :
    (m : Machine) (a : ℕ) (p : Private) (s : Session) (c : Course) → s.phase ≡ Unlocking c
    → removes m a p s ≡ removes_some (removed_by m (answer_of m) a p.now s c)
removes-unlocking m a p s c e =
    ap
    (λ (x : Phase). removes_some
    (option_map_or (λ k. (decision_of m (answer_of m) a p.now s k).removed) (course_of x) removed.Nothing))
    e

-- what the unlock leaves: a slot that was there, of another page where translations are removed
forgotten-kept :
    (m : Machine) (a : ℕ) (p : Private) (s : Session) (c : Course) (slots : List (Option Slot)) (k : ℕ) (t : Slot) → s.phase ≡ Unlocking c
    → slice_get (slots_forgotten m a p s c slots) k ≡ Some (Some t)
    → (slice_get slots k ≡ Some (Some t)) × (removes_in m a p t.entry s ≡ false)
forgotten-kept m a p s c slots k t e =
    let same = removes-unlocking m a p s c e in
    cond_both (removes_some (removed_by m (answer_of m) a p.now s c)) (map (without_slot_of m s.fault.page) slots) slots
    (λ left. slice_get left k ≡ Some (Some t) → (slice_get slots k ≡ Some (Some t)) × (removes_in m a p t.entry s ≡ false))
    (λ _ g. let w = slot-without_page m s.fault.page slots k t g in
    (w.0, and_right (removes m a p s) (page_of m t.entry == s.fault.page) w.1))
    (λ q g. (g, ap (λ b. b && page_of m t.entry == s.fault.page) (same ∙ q)))

-- so it is current, but for the entry that was granted
left-current :
    (m : Machine) (a : ℕ) (p : Private) (s : Session) (c : Course) (slots : List (Option Slot)) (k : ℕ) (t : Slot)
    → UnlocksOk m a p s c slots → t.entry ≢ entry_faulted m s.fault
    → slice_get (slots_forgotten m a p s c slots) k ≡ Some (Some t) → IsCurrent m p k t
left-current m a p s c slots k t u n g =
    let w = forgotten-kept m a p s c slots k t u.unlocking g in
    let f = u.cache k t w.0 in
    record {
      place = f.place;
      current = f.current (ap (removes_of m a p t.entry) u.session ∙ w.1) (ap (grants_by m a p t.entry) u.session
          ∙ last-false (not (removes m a p s)) (is_some (unlocking_of s.phase)) (entry_faulted m s.fault == t.entry)
          (neq-eqb (entry_faulted m s.fault) t.entry (λ q. n (sym q))));
    }
  where
    last-false : (b c d : Bool) → d ≡ false → (b && c && d) ≡ false
    last-false true true d h = h
    last-false true false d h = refl
    last-false false c d h = refl

    neq-eqb : (i j : ℕ) → i ≢ j → (i == j) ≡ false
    neq-eqb i j h = elim (cases_Bool (i == j)) [
      | inl e ↦ absurd (h (eqb-true i j e))
      | inr e ↦ e
    ]

-- its place is that of its entry
left-place :
    (m : Machine) (a : ℕ) (p : Private) (s : Session) (c : Course) (slots : List (Option Slot)) (k : ℕ) (t : Slot)
    → UnlocksOk m a p s c slots → slice_get (slots_forgotten m a p s c slots) k ≡ Some (Some t) → k ≡ vpage_of_entry m t.entry % 8
left-place m a p s c slots k t u g = (u.cache k t (forgotten-kept m a p s c slots k t u.unlocking g).0).place

-- and it does not serve the access
left-misses :
    (m : Machine) (a : ℕ) (p : Private) (s : Session) (c : Course) (slots : List (Option Slot)) (k : ℕ) (t : Slot)
    → UnlocksOk m a p s c slots → t.entry ≡ entry_faulted m s.fault
    → slice_get (slots_forgotten m a p s c slots) k ≡ Some (Some t)
    → serves_access t.entry (is_write (reach_now m a p).kind) (place_of (Some t)) ≡ false
left-misses m a p s c slots k t u e g =
    let w = forgotten-kept m a p s c slots k t u.unlocking g in
    let at : page_of m t.entry ≡ s.fault.page = ap (page_of m) (e ∙ entry-faulted m a p s u.fault) ∙ page-faulted m a p s u.fault in
    let none : removes m a p s ≡ false =
    first-false (removes m a p s) (page_of m t.entry == s.fault.page) (eq-eqb (page_of m t.entry) s.fault.page at) w.1 in
    (u.cache k t w.0).misses (ap (grants_by m a p t.entry) u.session
    ∙ all-true (removes m a p s) (is_some (unlocking_of s.phase)) (entry_faulted m s.fault == t.entry) none
    (ap (λ (x : Phase). is_some (unlocking_of x)) u.unlocking) (eq-eqb (entry_faulted m s.fault) t.entry (sym e)))
  where
    first-false : (b c : Bool) → c ≡ true → (b && c) ≡ false → b ≡ false
    first-false true c e h = absurd (true≢false (sym e ∙ h))
    first-false false c e h = refl

    all-true : (b c d : Bool) → b ≡ false → c ≡ true → d ≡ true → (not b && c && d) ≡ true
    all-true b c d q r s = rw (q, r, s) refl

-- so the look-up behind it misses
missed :
    (m : Machine) (a : ℕ) (p : Private) (s : Session) (c : Course) (slots : List (Option Slot)) (o : Option Slot)
    → UnlocksOk m a p s c slots → slot_of (slots_forgotten m a p s c slots) (vpage_of m (reach_now m a p)) ≡ o
    → serves_access (entry_of m (reach_now m a p)) (is_write (reach_now m a p).kind) (place_of o) ≡ false
missed m a p s c slots None u at = refl
missed m a p s c slots (Some t) u at =
    let r = reach_now m a p in
    let e = entry_of m r in
    let left = slots_forgotten m a p s c slots in
    let writes = is_write r.kind in
    elim (cases_Bool (serves_access e writes (place_of (Some t)))) [
      | inl h ↦ absurd (true≢false (sym h ∙ subst (λ i. serves_access i writes (place_of (Some t)) ≡ false)
          (serving-entry e writes t h)
          (left-misses m a p s c slots (vpage_of m r % 8) t u
          (serving-entry e writes t h ∙ sym (entry-faulted m a p s u.fault))
          (get_or-some left (vpage_of m r % 8) t at))))
      | inr h ↦ h
    ]

pub unlocked-misses :
    (m : Machine) (a : ℕ) (p : Private) (s : Session) (c : Course) (slots : List (Option Slot)) → UnlocksOk m a p s c slots
    → serves_access (entry_of m (reach_now m a p)) (is_write (reach_now m a p).kind)
    (place_of (slot_of (slots_forgotten m a p s c slots) (vpage_of m (reach_now m a p)))) ≡ false
unlocked-misses m a p s c slots u =
    missed m a p s c slots (slot_of (slots_forgotten m a p s c slots) (vpage_of m (reach_now m a p))) u refl

-- what the look-up behind the unlock finds
pub unlocked-found :
    (m : Machine) (a : ℕ) (p : Private) (s : Session) (c : Course) (slots : List (Option Slot)) → UnlocksOk m a p s c slots
    → has_right (reach_now m a p).kind (translation_at p (entry_of m (reach_now m a p))) ≡ true
unlocked-found m a p s c slots u =
    let r = reach_now m a p in
    ap (λ e. has_right r.kind (translation_at p e)) (sym (entry-faulted m a p s u.fault)) ∙ ap (has_right r.kind) u.granted
    ∙ ap (λ x. serves r.kind (right_of x)) u.fault.cause ∙ serves-cause r.kind

-- and so every place is current again
pub unlocked-current :
    (m : Machine) (a : ℕ) (p : Private) (s : Session) (c : Course) (slots : List (Option Slot)) → UnlocksOk m a p s c slots
    → AllCurrent m p (slots_looked m p (reach_now m a p) (slots_forgotten m a p s c slots))
unlocked-current m a p s c slots u =
    let r = reach_now m a p in
    let left = slots_forgotten m a p s c slots in
    let t = translation_made m (answer_of m) a p.now s c (entry_faulted m s.fault) in
    let found : translation_at p (entry_of m r) ≡ Some t =
    ap (translation_at p) (sym (entry-faulted m a p s u.fault)) ∙ u.granted in
    let filling : usable r.kind (translation_of p.pmap (entry_of m r)) ≡ Some t =
    cond-true (has_right r.kind (translation_at p (entry_of m r))) (translation_at p (entry_of m r)) None
    (unlocked-found m a p s c slots u) ∙ found in
    rw filling
    (filled-current m p (entry_of m r) (vpage_of m r) (is_write r.kind) t left found (vpage-reached m a p u.fault.wants)
    (λ h. absurd (true≢false (sym h ∙ unlocked-misses m a p s c slots u)))
    (λ k x n g. left-current m a p s c slots k x u
    (λ q. n (left-place m a p s c slots k x u g
    ∙ ap (λ e. vpage_of_entry m e % 8) (q ∙ entry-faulted m a p s u.fault)
    ∙ ap (λ v. v % 8) (vpage-reached m a p u.fault.wants)))
    g))
