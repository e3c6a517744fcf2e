-- what the cache keeps in a session: while its phases pass, at a post, and at the grant
use Rattle.std.proofs.Common.{◌≡◌, ℕ, Bool, true, false, List, Some, None, refl, ap, sym, ◌∙◌}
use Rattle.std.specs.Prelude.{◌≢◌, ◌==◌, ◌&&◌, ◌||◌, not, if◌then◌else◌, is_some, Option, slice_get, slice_set}
use Rattle.std.proofs.lemmas.Bool.{eqb-true, eqb-false, eq-eqb, true≢false, and_right}
use Rattle.std.proofs.lemmas.Option.{slice_get_within, get_or_from_slice_get}
use Rattle.std.proofs.lemmas.List.{get_or-set_other}
use Rattle.plat_base.specs.Machine.{Machine}
use Rattle.plat_base.specs.Flat.{is_write}
use Rattle.plat_base.specs.Held.{has_right, serves}
use Rattle.plat_base.specs.Messages.{removes_some}
use Rattle.plat_base.specs.Pages.{page_of}
use Rattle.plat_base.specs.declared.frames.Dir.{Dir}
use Rattle.plat_base.specs.declared.items.Kind.{Kind}
use Rattle.plat_base.specs.declared.items.Kind.TheVariants.{Load, Store, Add}
use Rattle.plat_base.specs.declared.items.Right.{Right}
use Rattle.plat_base.specs.declared.items.Right.TheVariants.{Read, Write}
use Rattle.plat_base.specs.declared.items.Translation.{Translation}
use Rattle.plat_events.specs.Events.{reach_now}
use Rattle.plat_events.specs.Privates.{InSession, Place, Private, translation_at}
use Rattle.plat_events.specs.Sessions.{Fault, Course, Phase, Granting, Unlocking, Session, entry_faulted, with_phase}
use Rattle.plat_events.specs.Standings.{removes_by, unlocking_of}
use Rattle.plat_events.specs.Kept.{session_of}
use Rattle.plat_handler.specs.Phases.{answer_of}
use Rattle.plat_local_laws.proofs.SessionLaws.{session_at}
use Rattle.plat_pmap.specs.Slots.{AreSlots, is_usable}
use Rattle.plat_pmap.specs.declared.atcs.Slot.{Slot}
use Rattle.plat_proc.specs.Fits.{CacheFits, grants_by, grants_in, removes_of}
use Rattle.plat_proc.proofs.GoesOnLemmas.{IsBefore}
use Rattle.plat_proc.proofs.SlotFitsLemmas.{and-weaker, ungranted}
use Rattle.plat_base.proofs.LimitLemmas.{holds_at}

-- the session removes translations
abbrev pub removes : Machine → (a : ℕ) → Private → Session → Bool
removes m a p s = removes_some (removes_by m (answer_of m) a p.now s)

-- ---- the next phase

pub session-fits :
    (m : Machine) (a : ℕ) (p : Private) (place : Place) (s : Session) (y : Phase) (slots : List (Option Slot))
    → session_of p.place ≡ Some s → session_of place ≡ Some (with_phase s y) → IsBefore s.phase → IsBefore y
    → (removes m a p s ≡ true → removes m a p (with_phase s y) ≡ true) → CacheFits m a p slots
    → CacheFits m a (record p { place = place }) slots
session-fits m a p place s y slots ep eq b c r h k t g =
    let q : Private = record p { place = place } in
    let u = with_phase s y in
    let f = h k t g in
    record {
      place = f.place;
      current = λ x _. f.current
          (ap (removes_of m a p t.entry) ep
          ∙ and-weaker (removes m a p s) (removes m a p u) (page_of m t.entry == s.fault.page) r
          (sym (ap (removes_of m a q t.entry) eq) ∙ x))
          (ap (grants_by m a p t.entry) ep ∙ ungranted m a p t.entry s b);
      misses = λ x. absurd (true≢false (sym x ∙ ap (grants_by m a q t.entry) eq ∙ ungranted m a q t.entry u c));
    }

-- ---- a post

and-second : (b c : Bool) → b ≡ true → (b && c) ≡ false → c ≡ false
and-second true c e h = h
and-second false c e h = absurd cc

-- a session that removes translations has granted none that counts
removing-ungranted :
    (m : Machine) (a : ℕ) (p : Private) (e : ℕ) (s : Session) → removes m a p s ≡ true → grants_in m a p e s ≡ false
removing-ungranted m a p e s h =
    by (removes m a p s) (is_some (unlocking_of s.phase)) (entry_faulted m s.fault == e) h
  where
    by : (b c d : Bool) → b ≡ true → (not b && c && d) ≡ false
    by true c d k = refl
    by false c d k = absurd cc

pub posted-fits :
    (m : Machine) (a : ℕ) (p : Private) (place : Place) (s : Session) (y : Phase) (i : ℕ) (v : Option Translation)
    (slots : List (Option Slot)) → session_of p.place ≡ Some s → session_of place ≡ Some (with_phase s y) → removes m a p s ≡ true
    → removes m a p (with_phase s y) ≡ true → page_of m i ≡ s.fault.page → CacheFits m a p slots
    → CacheFits m a (record p { pmap = slice_set p.pmap i v; place = place }) slots
posted-fits m a p place s y i v slots ep eq b c at h k t g =
    let q : Private = record p { pmap = slice_set p.pmap i v; place = place } in
    let u = with_phase s y in
    let f = h k t g in
    let apart : is_apart q = λ x. and-second (removes m a p u) (page_of m t.entry == s.fault.page) c
    (sym (ap (removes_of m a q t.entry) eq) ∙ x) in
    record {
      place = f.place;
      current = λ x _. get_or-set_other p.pmap i t.entry v None (other t.entry (apart x))
          ∙ f.current
          (ap (removes_of m a p t.entry) ep ∙ and_right (removes m a p s) (page_of m t.entry == s.fault.page) (apart x))
          (ap (grants_by m a p t.entry) ep ∙ removing-ungranted m a p t.entry s b);
      misses = λ x. absurd (true≢false (sym x ∙ ap (grants_by m a q t.entry) eq ∙ removing-ungranted m a q t.entry u c));
    }
  where
    is_apart : Private → Type 0
    is_apart q = removes_of m a q t.entry (session_of place) ≡ false → (page_of m t.entry == s.fault.page) ≡ false

    other : (e : ℕ) → (page_of m e == s.fault.page) ≡ false → e ≢ i
    other e x z = eqb-false (page_of m e) s.fault.page x (ap (page_of m) z ∙ at)

-- ---- the grant

-- each slot is usable
pub slot-usable :
    (slots : List (Option Slot)) (k : ℕ) (s : Slot) → AreSlots slots → slice_get slots k ≡ Some (Some s) → is_usable (Some s) ≡ true
slot-usable slots k s h g =
    ap is_usable (sym (get_or_from_slice_get slots k (Some s) None g))
    ∙ holds_at is_usable slots k None h.usable (slice_get_within slots k (Some s) g)

-- what serves no access by its right was not filled by a write
lacks-misses :
    (kind : Kind) (right : Right) (written b : Bool) → serves kind right ≡ false → serves (if written then Store else Load) right ≡ true
    → (b && (not (is_write kind) || written)) ≡ false
lacks-misses Load right written b h u = absurd cc
lacks-misses Store Read true b h u = absurd cc
lacks-misses Store Read false b h u = and_right b false refl
lacks-misses Store Write written b h u = absurd cc
lacks-misses Add Read true b h u = absurd cc
lacks-misses Add Read false b h u = and_right b false refl
lacks-misses Add Write written b h u = absurd cc

parts : (b c d : Bool) → (not b && c && d) ≡ true → (b ≡ false) × (d ≡ true)
parts true c d h = absurd cc
parts false true d h = (refl, h)
parts false false d h = absurd cc

pub granted-fits :
    (m : Machine) (a : ℕ) (p : Private) (fault : Fault) (dir : Dir) (c : Course) (v : Option Translation) (slots : List (Option Slot))
    → session_of p.place ≡ Some (session_at fault dir (Granting c)) → page_of m (entry_faulted m fault) ≡ fault.page
    → has_right (reach_now m a p).kind (translation_at p (entry_faulted m fault)) ≡ false → AreSlots slots → CacheFits m a p slots
    → CacheFits m a
    (record p { pmap = slice_set p.pmap (entry_faulted m fault) v; place = InSession (session_at fault dir (Unlocking c)) }) slots
granted-fits m a p fault dir c v slots ep at lacks are h k t g =
    let s = session_at fault dir (Granting c) in
    let f = h k t g in
    let none : grants_of s = ap (grants_by m a p t.entry) ep ∙ ungranted m a p t.entry s refl in
    record {
      place = f.place;
      current = λ x n. get_or-set_other p.pmap (entry_faulted m fault) t.entry v None (other t.entry x n)
          ∙ f.current (ap (removes_of m a p t.entry) ep ∙ x) none;
      misses = λ n.
          let both = parts (removes m a p s) true (entry_faulted m fault == t.entry) n in
          let same = eqb-true (entry_faulted m fault) t.entry both.1 in
          let found = f.current (ap (removes_of m a p t.entry) ep ∙ ap (λ b. b && page_of m t.entry == fault.page) both.0) none in
          lacks-misses (reach_now m a p).kind t.translation.grant.right t.written (t.entry == t.entry)
          (sym (ap (has_right (reach_now m a p).kind) (ap (translation_at p) same ∙ found)) ∙ lacks)
          (slot-usable slots k t are g);
    }
  where
    grants_of : Session → Type 0
    grants_of s = grants_by m a p t.entry (session_of p.place) ≡ false

    other :
        (e : ℕ) → (removes m a p (session_at fault dir (Granting c)) && page_of m e == fault.page) ≡ false
        → (not (removes m a p (session_at fault dir (Granting c))) && true && entry_faulted m fault == e) ≡ false
        → e ≢ entry_faulted m fault
    other e x n z =
        apart (removes m a p (session_at fault dir (Granting c))) (page_of m e == fault.page) (entry_faulted m fault == e)
        (eq-eqb (page_of m e) fault.page (ap (page_of m) z ∙ at)) (eq-eqb (entry_faulted m fault) e (sym z)) x n
      where
        apart : (b x y : Bool) → x ≡ true → y ≡ true → (b && x) ≡ false → (not b && true && y) ≡ false → ⊥
        apart true true y q r h k = absurd cc
        apart true false y q r h k = absurd cc
        apart false x true q r h k = absurd cc
        apart false x false q r h k = absurd cc
