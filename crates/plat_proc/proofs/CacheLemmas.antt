-- the cache of translations: what it keeps after each operation, and why its answers are the translations of the map
use Rattle.std.proofs.Common.{◌≡◌, ℕ, true, false, refl, ap, sym, subst, ◌∙◌, inl, inr, arith}
use Rattle.std.specs.Prelude.{IsTrue}
use Rattle.std.proofs.lemmas.Bool.{cases_Bool, cond-true, cond-false, true≢false}
use Rattle.plat_base.specs.Machine.{Machine, is_machine}
use Rattle.plat_base.specs.Flat.{is_write}
use Rattle.plat_base.specs.GuestRun.{reach_of, want_of}
use Rattle.plat_base.specs.declared.items.Kind.{Kind}
use Rattle.plat_base.specs.declared.guests.Want.TheVariants as want
use Rattle.plat_events.specs.Sessions.{Course, Unlocking, Session}
use Rattle.plat_events.specs.Privates.{Ticking, InSession, Private}
use Rattle.plat_events.specs.Events.{entry_of, reach_now, vpage_of, with_item, item_at, moved_at}
use Rattle.plat_events.specs.Kept.{session_of}
use Rattle.plat_handler.specs.Phases.{answer_of}
use Rattle.plat_local_laws.specs.Phases.{PhaseOk, SessionOk}
use Rattle.plat_local_laws.specs.Standing.{PlaceOk, StandingOk}
use Rattle.plat_local_laws.proofs.AloneLaws.{after-followed, after-passed}
use Rattle.plat_local_laws.proofs.StandingLaws.{standing_ok}
use Rattle.plat_pmap.specs.Slots.{Agrees, AreSlots, places}
use Rattle.plat_proc.specs.Cached.{slots_forgotten, slots_followed, slots_told}
use Rattle.plat_proc.specs.Fits.{CacheFits, Fits}
use Rattle.plat_proc.specs.Followed.{followed_next, is_told, told_to}
use Rattle.plat_proc.specs.ProcSeen.{ProcSeen}
use Rattle.plat_proc.proofs.AtcLemmas.{places-moved}
use Rattle.plat_proc.proofs.CacheMovedLemmas.{place-moved}
use Rattle.plat_proc.proofs.LookUpLemmas.{UnlocksOk, current-agrees, unlocked-misses}
use Rattle.plat_proc.proofs.SlotFitsLemmas.{idle-current, journal-fits}

-- ---- a number that is followed, and one that is not

pub told-followed : (m : Machine) (x : ProcSeen) (n : ℕ) → is_told m x n ≡ true → told_to m x n ≡ followed_next m x n
told-followed m x n e = after-followed m (answer_of m) x.actor x.state n e

pub told-passed : (m : Machine) (x : ProcSeen) (n : ℕ) → is_told m x n ≡ false → told_to m x n ≡ x.state
told-passed m x n e = after-passed m (answer_of m) x.actor x.state n e

pub slots-followed : (m : Machine) (x : ProcSeen) (n : ℕ) → is_told m x n ≡ true → slots_told m x n ≡ slots_followed m x
slots-followed m x n e = cond-true (is_told m x n) (slots_followed m x) x.slots e

pub slots-passed : (m : Machine) (x : ProcSeen) (n : ℕ) → is_told m x n ≡ false → slots_told m x n ≡ x.slots
slots-passed m x n e = cond-false (is_told m x n) (slots_followed m x) x.slots e

-- where it stands
pub stands-at : (m : Machine) (x : ProcSeen) → IsTrue (is_machine m) → Fits m x → StandingOk m (answer_of m) x.actor x.state
stands-at m x h f =
    let l = f.processor in standing_ok m (answer_of m) x.actor x.state h (omega (arith, l)) f.alone

-- ---- the cache agrees with the translations where an access is looked up

-- at a tick
pub agrees-ticked :
    (m : Machine) (x : ProcSeen) (kind : Kind) (space addr operand : ℕ) → Fits m x → x.state.place ≡ Ticking
    → want_of m x.actor x.state.guest ≡ want.Access kind space addr operand
    → (let r = reach_of m kind space addr operand in Agrees x.slots x.state.pmap (entry_of m r) (vpage_of m r) (is_write r.kind))
agrees-ticked m x kind space addr operand f e w =
    let r = reach_of m kind space addr operand in
    current-agrees m x.state x.slots (entry_of m r) (vpage_of m r) (is_write r.kind)
    (idle-current m x.actor x.state x.slots (ap session_of e) f.cache)

-- and behind an unlock, once the places of the page are emptied
pub agrees-unlocked :
    (m : Machine) (x : ProcSeen) (s : Session) (c : Course) → IsTrue (is_machine m) → Fits m x → x.state.place ≡ InSession s
    → s.phase ≡ Unlocking c
    → (let r = reach_now m x.actor x.state in
    Agrees (slots_forgotten m x.actor x.state s c x.slots) x.state.pmap (entry_of m r) (vpage_of m r) (is_write r.kind))
agrees-unlocked m x s c h f e q =
    let k : SessionOk m (answer_of m) x.actor x.state s = subst (PlaceOk m (answer_of m) x.actor x.state) e (stands-at m x h f).place in
    let phase : PhaseOk m (answer_of m) x.actor x.state s (Unlocking c) = subst (PhaseOk m (answer_of m) x.actor x.state s) q k.phase in
    let u : UnlocksOk m x.actor x.state s c x.slots = record {
      session = ap session_of e;
      unlocking = q;
      fault = k.fault.access f.processor;
      granted = phase.granted f.processor;
      cache = f.cache;
    } in
    λ y. absurd (true≢false (sym y ∙ unlocked-misses m x.actor x.state s c x.slots u))

-- ---- what it keeps after each operation

pub cache-followed :
    (m : Machine) (x : ProcSeen) (n : ℕ) → IsTrue (is_machine m) → Fits m x → AreSlots x.slots
    → CacheFits m x.actor (followed_next m x n) (slots_followed m x)
cache-followed m x n h f are =
    journal-fits m x.actor (moved_at m (answer_of m) x.actor x.state n x.state.place)
    (with_item x.state.journal (item_at m (answer_of m) x.actor x.state n x.state.place)) (slots_followed m x)
    (place-moved m x.actor x.state n x.state.place x.slots refl f.processor (stands-at m x h f).place are f.cache)

pub cache-told :
    (m : Machine) (x : ProcSeen) (n : ℕ) → IsTrue (is_machine m) → Fits m x → AreSlots x.slots
    → CacheFits m x.actor (told_to m x n) (slots_told m x n)
cache-told m x n h f are =
    elim (cases_Bool (is_told m x n)) [
      | inl e ↦ rw (told-followed m x n e, slots-followed m x n e) (cache-followed m x n h f are)
      | inr e ↦ rw (told-passed m x n e, slots-passed m x n e) f.cache
    ]

pub atc-followed :
    (m : Machine) (x : ProcSeen) (n : ℕ) → IsTrue (is_machine m) → Fits m x → x.state.atc ≡ places x.slots
    → (followed_next m x n).atc ≡ places (slots_followed m x)
atc-followed m x n h f e = places-moved m x.actor x.state n x.state.place x.slots f.processor (stands-at m x h f).place e

pub atc-told :
    (m : Machine) (x : ProcSeen) (n : ℕ) → IsTrue (is_machine m) → Fits m x → x.state.atc ≡ places x.slots
    → (told_to m x n).atc ≡ places (slots_told m x n)
atc-told m x n h f e =
    elim (cases_Bool (is_told m x n)) [
      | inl k ↦ ap (λ (p : Private). p.atc) (told-followed m x n k) ∙ atc-followed m x n h f e ∙ ap places (sym (slots-followed m x n k))
      | inr k ↦ ap (λ (p : Private). p.atc) (told-passed m x n k) ∙ e ∙ ap places (sym (slots-passed m x n k))
    ]
