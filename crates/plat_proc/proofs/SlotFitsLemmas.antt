-- what a place of the cache keeps, where the translations, the place of the processor or its session change
use Rattle.std.proofs.Common.{◌≡◌, ℕ, zero, suc, Bool, true, false, List, [], ◌∷◌, Some, None, refl, ap, sym, subst, ◌∙◌, ◌⊎◌, inl, inr}
use Rattle.std.proofs.Common.{set, map, arith}
use Rattle.std.specs.Prelude.{◌≢◌, ◌==◌, ◌%◌, ◌&&◌, if◌then◌else◌, is_some, Option, slice_get, slice_set, slice_index_or}
use Rattle.std.specs.Option.{option_map}
use Rattle.std.proofs.lemmas.Bool.{cond_both, eqb-false, true≢false, and_right}
use Rattle.std.proofs.lemmas.Option.{slice_get-map}
use Rattle.std.proofs.lemmas.List.{get_or-set_other}
use Rattle.plat_base.specs.Machine.{Machine}
use Rattle.plat_base.specs.Cache.{serves_access}
use Rattle.plat_base.specs.Cache.{Place as CachePlace}
use Rattle.plat_base.specs.Messages.{removes_some}
use Rattle.plat_base.specs.Pages.{page_of}
use Rattle.plat_base.specs.declared.items.Item.{Item}
use Rattle.plat_base.specs.declared.items.Translation.{Translation}
use Rattle.plat_events.specs.Privates.{Place, Private, translation_at}
use Rattle.plat_events.specs.Sessions.{Session}
use Rattle.plat_events.specs.Standings.{removes_by, unlocking_of}
use Rattle.plat_events.specs.Kept.{session_of}
use Rattle.plat_handler.specs.Phases.{answer_of}
use Rattle.plat_pmap.specs.Slots.{filled, place_of, slot_of, without_slot}
use Rattle.plat_pmap.specs.declared.atcs.Slot.{Slot}
use Rattle.plat_proc.specs.Cached.{without_slot_of}
use Rattle.plat_proc.specs.Fits.{CacheFits, grants_by, grants_in, is_granted, is_removed, removes_of, vpage_of_entry}

-- ---- places that are kept

-- what stands at a place after a write of one
pub slot-set :
    (slots : List (Option Slot)) (i : ℕ) (v : Option Slot) (k : ℕ) (y : Option Slot) → slice_get (set slots i v) k ≡ Some y
    → ((k ≡ i) × (v ≡ y)) ⊎ ((k ≢ i) × (slice_get slots k ≡ Some y))
slot-set [] i v k y h = absurd cc
slot-set (x ∷ xs) zero v zero y h = inl (refl, cc)
slot-set (x ∷ xs) zero v (suc k) y h = inr (λ e. absurd cc, h)
slot-set (x ∷ xs) (suc i) v zero y h = inr (λ e. absurd cc, h)
slot-set (x ∷ xs) (suc i) v (suc k) y h =
    elim (slot-set xs i v k y h) [
      | inl e ↦ inl (ap suc e.0, e.1)
      | inr e ↦ inr (λ q. e.0 (cc), e.1)
    ]

kept-if :
    (b : Bool) (t s : Slot) → Some (if b then None else Some t) ≡ Some (Some s) → (b ≡ false) × (t ≡ s)
kept-if true t s h = absurd cc
kept-if false t s h = (refl, cc)

without-some :
    (e : ℕ) (o : Option (Option Slot)) (s : Slot) → option_map (without_slot e) o ≡ Some (Some s)
    → (o ≡ Some (Some s)) × ((s.entry == e) ≡ false)
without-some e None s h = absurd cc
without-some e (Some None) s h = absurd cc
without-some e (Some (Some t)) s h =
    let k = kept-if (t.entry == e) t s h in (ap (λ x. Some (Some x)) k.1, subst (λ (x : Slot). (x.entry == e) ≡ false) k.1 k.0)

-- without the places of an entry
pub slot-without :
    (e : ℕ) (slots : List (Option Slot)) (k : ℕ) (s : Slot) → slice_get (map (without_slot e) slots) k ≡ Some (Some s)
    → (slice_get slots k ≡ Some (Some s)) × ((s.entry == e) ≡ false)
slot-without e slots k s h = without-some e (slice_get slots k) s (sym (slice_get-map (without_slot e) slots k) ∙ h)

without_of-some :
    (m : Machine) (page : ℕ) (o : Option (Option Slot)) (s : Slot) → option_map (without_slot_of m page) o ≡ Some (Some s)
    → (o ≡ Some (Some s)) × ((page_of m s.entry == page) ≡ false)
without_of-some m page None s h = absurd cc
without_of-some m page (Some None) s h = absurd cc
without_of-some m page (Some (Some t)) s h =
    let k = kept-if (page_of m t.entry == page) t s h in
    (ap (λ x. Some (Some x)) k.1, subst (λ (x : Slot). (page_of m x.entry == page) ≡ false) k.1 k.0)

-- without the places of a page
pub slot-without_page :
    (m : Machine) (page : ℕ) (slots : List (Option Slot)) (k : ℕ) (s : Slot)
    → slice_get (map (without_slot_of m page) slots) k ≡ Some (Some s)
    → (slice_get slots k ≡ Some (Some s)) × ((page_of m s.entry == page) ≡ false)
slot-without_page m page slots k s h =
    without_of-some m page (slice_get slots k) s (sym (slice_get-map (without_slot_of m page) slots k) ∙ h)

-- ---- every place keeps the translation of its entry

pub record IsCurrent (m : Machine) (p : Private) (k : ℕ) (s : Slot) : Type 0 where
  pub place : k ≡ vpage_of_entry m s.entry % 8
  pub current : translation_at p s.entry ≡ Some s.translation

abbrev pub AllCurrent : Machine → Private → List (Option Slot) → Type 0
AllCurrent m p slots = (k : ℕ) (s : Slot) → slice_get slots k ≡ Some (Some s) → IsCurrent m p k s

-- so it is where there is no session
pub idle-current :
    (m : Machine) (a : ℕ) (p : Private) (slots : List (Option Slot)) → session_of p.place ≡ None → CacheFits m a p slots
    → AllCurrent m p slots
idle-current m a p slots e h k s g =
    let f = h k s g in
    record { place = f.place; current = f.current (ap (removes_of m a p s.entry) e) (ap (grants_by m a p s.entry) e) }

-- and so it fits, where no translation is granted
pub current-fits :
    (m : Machine) (a : ℕ) (p : Private) (slots : List (Option Slot)) → ((e : ℕ) → is_granted m a p e ≡ false) → AllCurrent m p slots
    → CacheFits m a p slots
current-fits m a p slots n h k s g =
    let f = h k s g in
    record { place = f.place; current = λ _ _. f.current; misses = λ q. absurd (true≢false (sym q ∙ n s.entry)) }

pub current-idle :
    (m : Machine) (a : ℕ) (p : Private) (slots : List (Option Slot)) → session_of p.place ≡ None → AllCurrent m p slots
    → CacheFits m a p slots
current-idle m a p slots e h = current-fits m a p slots (λ i. ap (grants_by m a p i) e) h

-- the same translations
pub current-same :
    (m : Machine) (p q : Private) (slots : List (Option Slot)) → q.pmap ≡ p.pmap → AllCurrent m p slots → AllCurrent m q slots
current-same m p q slots e h k s g =
    let f = h k s g in
    record {
      place = f.place;
      current = ap (λ (pmap : List (Option Translation)). slice_index_or pmap s.entry None) e ∙ f.current;
    }

-- without a session before and behind
pub idle-fits :
    (m : Machine) (a : ℕ) (p q : Private) (slots : List (Option Slot)) → session_of p.place ≡ None → session_of q.place ≡ None
    → q.pmap ≡ p.pmap → CacheFits m a p slots → CacheFits m a q slots
idle-fits m a p q slots e f t h = current-idle m a q slots f (current-same m p q slots t (idle-current m a p slots e h))

-- ---- a look-up

-- it fills the place of its virtual page with the translation
pub filled-current :
    (m : Machine) (p : Private) (e vpage : ℕ) (writes : Bool) (t : Translation) (slots : List (Option Slot))
    → translation_at p e ≡ Some t → vpage_of_entry m e ≡ vpage
    → (serves_access e writes (place_of (slot_of slots vpage)) ≡ true → AllCurrent m p slots)
    → ((k : ℕ) (s : Slot) → k ≢ vpage % 8 → slice_get slots k ≡ Some (Some s) → IsCurrent m p k s)
    → AllCurrent m p (filled e vpage writes (Some t) slots)
filled-current m p e vpage writes t slots found at hit other =
    let new : Slot = record { entry = e; translation = t; written = writes } in
    cond_both (serves_access e writes (place_of (slot_of slots vpage))) slots (slice_set slots (vpage % 8) (Some new)) (AllCurrent m p) hit
    (λ _ k s g. elim (slot-set slots (vpage % 8) (Some new) k (Some s) g) [
      | inl i ↦ subst (IsCurrent m p k) (new_is new s i.1) (record { place = i.0 ∙ ap (λ v. v % 8) (sym at); current = found })
      | inr i ↦ other k s i.0 i.1
    ])
  where
    new_is : (x y : Slot) → Some x ≡ Some y → x ≡ y
    new_is x y h = cc

-- ---- the same session

removes-now :
    (m : Machine) (a : ℕ) (p q : Private) (e : ℕ) (o : Option Session) → q.now ≡ p.now → removes_of m a q e o ≡ removes_of m a p e o
removes-now m a p q e None n = refl
removes-now m a p q e (Some s) n =
    ap (λ (now : ℕ). removes_some (removes_by m (answer_of m) a now s) && page_of m e == s.fault.page) n

grants-now :
    (m : Machine) (a : ℕ) (p q : Private) (e : ℕ) (o : Option Session) → q.now ≡ p.now → grants_by m a q e o ≡ grants_by m a p e o
grants-now m a p q e None n = refl
grants-now m a p q e (Some s) n = rw n refl

pub removed-same :
    (m : Machine) (a : ℕ) (p q : Private) (e : ℕ) → q.now ≡ p.now → session_of q.place ≡ session_of p.place
    → is_removed m a q e ≡ is_removed m a p e
removed-same m a p q e n t = ap (removes_of m a q e) t ∙ removes-now m a p q e (session_of p.place) n

pub granted-same :
    (m : Machine) (a : ℕ) (p q : Private) (e : ℕ) → q.now ≡ p.now → session_of q.place ≡ session_of p.place
    → is_granted m a q e ≡ is_granted m a p e
granted-same m a p q e n t = ap (grants_by m a q e) t ∙ grants-now m a p q e (session_of p.place) n

-- only the place changes
pub place-fits :
    (m : Machine) (a : ℕ) (p : Private) (place : Place) (slots : List (Option Slot)) → session_of place ≡ session_of p.place
    → CacheFits m a p slots → CacheFits m a (record p { place = place }) slots
place-fits m a p place slots t h k s g =
    let q : Private = record p { place = place } in
    let f = h k s g in
    record {
      place = f.place;
      current = λ r n. f.current (sym (removed-same m a p q s.entry refl t) ∙ r) (sym (granted-same m a p q s.entry refl t) ∙ n);
      misses = λ n. f.misses (sym (granted-same m a p q s.entry refl t) ∙ n);
    }

-- a message is applied to an entry, and its places are emptied
pub applied-fits :
    (m : Machine) (a : ℕ) (p : Private) (e : ℕ) (v : Option Translation) (atc : List (Option CachePlace)) (place : Place)
    (slots : List (Option Slot)) → session_of place ≡ session_of p.place → CacheFits m a p slots
    → CacheFits m a (record p { pmap = slice_set p.pmap e v; atc = atc; place = place }) (map (without_slot e) slots)
applied-fits m a p e v atc place slots t h k s g =
    let q : Private = record p { pmap = slice_set p.pmap e v; atc = atc; place = place } in
    let w = slot-without e slots k s g in
    let f = h k s w.0 in
    record {
      place = f.place;
      current = λ r n. get_or-set_other p.pmap e s.entry v None (eqb-false s.entry e w.1)
          ∙ f.current (sym (removed-same m a p q s.entry refl t) ∙ r) (sym (granted-same m a p q s.entry refl t) ∙ n);
      misses = λ n. f.misses (sym (granted-same m a p q s.entry refl t) ∙ n);
    }

-- the journal tells nothing of it
pub journal-fits :
    (m : Machine) (a : ℕ) (p : Private) (journal : List Item) (slots : List (Option Slot)) → CacheFits m a p slots
    → CacheFits m a (record p { journal = journal }) slots
journal-fits m a p journal slots h k s g =
    let f = h k s g in record { place = f.place; current = f.current; misses = f.misses }

-- ---- a session in its next phase

pub and-weaker : (b c d : Bool) → (b ≡ true → c ≡ true) → (c && d) ≡ false → (b && d) ≡ false
and-weaker true true d k h = h
and-weaker true false d k h = absurd (true≢false (sym (k refl)))
and-weaker false c d k h = refl

-- where the unlock is not next, nothing is granted
pub ungranted :
    (m : Machine) (a : ℕ) (p : Private) (e : ℕ) (s : Session) → is_some (unlocking_of s.phase) ≡ false → grants_in m a p e s ≡ false
ungranted m a p e s h = grind (arith, and_right)
