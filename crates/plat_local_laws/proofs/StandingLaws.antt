-- where an actor stands: each number that is followed keeps what holds there
use Rattle.std.proofs.Common.{◌≡◌, ℕ, zero, suc, ◌+◌, ◌<◌, ◌≤◌, Bool, true, false, List, Some, None, refl, arith, ap, sym, subst, ◌∙◌, ◌⊎◌}
use Rattle.std.proofs.Common.{inl, inr, replicate, get_or}
use Rattle.std.specs.Prelude.{◌==◌, nat_lt, ◌&&◌, not, if◌then◌else◌}
use Rattle.std.proofs.lemmas.Bool.{cond_both, eqb-true, eqb-false, and_parts, and_from, eq-eqb, cases_lt, true≢false, not-true}
use Rattle.std.proofs.lemmas.Bool.Decides.{nat_tests}
use Rattle.std.proofs.lemmas.List.{length-replicate}
use Rattle.plat_base.specs.Verdicts.{Answer}
use Rattle.plat_base.specs.Machine.{Machine, limits}
use Rattle.plat_base.specs.Held.{told}
use Rattle.plat_base.specs.GuestRun.{want_of, guest_after}
use Rattle.plat_base.specs.Rules.{has_daemon}
use Rattle.plat_base.specs.Decide.{is_dir}
use Rattle.plat_base.specs.declared.items.Message.{Message}
use Rattle.plat_base.specs.declared.items.Moment.{Moment}
use Rattle.plat_base.specs.declared.items.Moment.TheVariants as moment
use Rattle.plat_base.specs.declared.items.Item.{Item}
use Rattle.plat_base.specs.declared.items.Translation.{Translation}
use Rattle.plat_base.specs.declared.endings.End.TheVariants as end
use Rattle.plat_base.specs.declared.guests.Want.{Want}
use Rattle.plat_base.specs.declared.guests.Want.TheVariants as want
use Rattle.plat_laws.specs.Guests.{IsWithinLimits}
use Rattle.plat_laws.proofs.GuestLaws.{space-guest_after, space_after}
use Rattle.plat_laws.proofs.Limits.{budget-some}
use Rattle.plat_events.specs.Words.{dir_read, is_locked}
use Rattle.plat_events.specs.Places.{entry_count, is_dir_word}
use Rattle.plat_events.specs.Sessions.{Fault, Phase, Stamping, Returning}
use Rattle.plat_events.specs.Privates.{Onward, NewTurn, TurnOver, Relock, Place, Polling, Looking, Applying, Ticking, Switching, Loading}
use Rattle.plat_events.specs.Privates.{Expecting, Exchanging, Locking, InSession, Leaving, Lessening, Gone, LiveLooking, TimeLooking, Over}
use Rattle.plat_events.specs.Privates.{Private, actor_count, first_place, first_private, translation_at}
use Rattle.plat_events.specs.Scans.{entry_scanned, turn_over, scan_from, poll_place, look_place}
use Rattle.plat_events.specs.Events.{reach_now, look_up, look_up_place, turn_does, ticked, apply_message, switched, access_over}
use Rattle.plat_events.specs.Events.{lock_place_after, thaw_of, pass_begun, moved_at, named_next, at, is_followed, item_at, with_item}
use Rattle.plat_events.specs.Shown.{IsReachedAlone}
use Rattle.plat_local_laws.specs.Standing.{LockingOk, ScanningOk, TickingOk, SwitchingOk, PlaceOk, StandingOk}
use Rattle.plat_local_laws.proofs.AloneLaws.{followed, alone-keeps}
use Rattle.plat_local_laws.proofs.CourseLaws.{IsActor}
use Rattle.plat_local_laws.proofs.PhaseLaws.{not_daemon}
use Rattle.plat_local_laws.proofs.PmapLaws.{with_translation, TranslationsOk, TranslationsOk-with, told-ok, OnwardOk-told}
use Rattle.plat_local_laws.proofs.TurnLaws.{standing-at, turn_over-ok, scan_from-ok, poll_place-ok, look_place-ok, reach_now-wanted}
use Rattle.plat_local_laws.proofs.TurnLaws.{WantsAccess-from, look_up-ok}
use Rattle.plat_local_laws.proofs.SessionLaws.{HereOk, thaw-locked, session_at, session-step}
use Rattle.plat_base.proofs.LimitLemmas.{holds_at}

-- ---- one step of each kind

-- a message is applied, and the scan goes on
apply-step :
    (m : Machine) (answer : Answer) (a : ℕ) (p : Private) (i : ℕ) (msg : Message) (moment : Moment) (onward : Onward) → HereOk m a p
    → ScanningOk m answer a p i moment onward
    → StandingOk m answer a
    (at (apply_message p (entry_scanned m p i) msg) (scan_from m p.turns p.guest.space (i + 1) moment onward))
apply-step m answer a p i msg moment onward here h =
    let e = entry_scanned m p i in
    let v = told msg (translation_at p e) in
    let q = with_translation p e v in
    let there : TranslationsOk m q =
    TranslationsOk-with m p e v here.translations (told-ok m e msg (translation_at p e) (here.translations.translations e)) in
    standing-at m answer a q (scan_from m p.turns p.guest.space (i + 1) moment onward) _ p.due p.journal there here.turns_most
    (scan_from-ok m answer a q (i + 1) moment onward h.processor here.turns_most h.leads (OnwardOk-told m answer a p e msg onward h.behind))

-- the turn ends with the guest moved on
over-step :
    (m : Machine) (answer : Answer) (a : ℕ) (p : Private) (value : ℕ) → TranslationsOk m p → p.turns ≤ m.budget → a < m.nodes
    → StandingOk m answer a (record p { guest = guest_after m a p.guest value; place = turn_over m p.turns })
over-step m answer a p value t b l =
    let q : Private = record p { guest = guest_after m a p.guest value } in
    standing-at m answer a q (turn_over m p.turns) p.atc p.due p.journal
    (record { all_entries = t.all_entries; translations = t.translations }) b (turn_over-ok m answer a q l b)

ticked-step :
    (m : Machine) (answer : Answer) (a : ℕ) (p : Private) (w : Want) → IsWithinLimits m → TranslationsOk m p → p.turns ≤ m.budget
    → a < m.nodes → want_of m a p.guest ≡ w → StandingOk m answer a (turn_does m a p w)
ticked-step m answer a p want.Local h t b l e = over-step m answer a p 0 t b l
ticked-step m answer a p (want.Access k sp ad o) h t b l e =
    subst (λ r. StandingOk m answer a (look_up m r p)) (reach_now-wanted m a p k sp ad o e)
    (standing-at m answer a p (look_up_place m p (reach_now m a p)) _ p.due p.journal t b
    (look_up-ok m answer a p h l (WantsAccess-from m a p k sp ad o e)))
ticked-step m answer a p (want.Switch space) h t b l e =
    standing-at m answer a p (Switching space) p.atc p.due p.journal t b (record { processor = l; wants = e })
ticked-step m answer a p (want.Print v) h t b l e = over-step m answer a p 0 t b l
ticked-step m answer a p want.Halted h t b l e =
    standing-at m answer a p (Leaving end.Halted) p.atc p.due p.journal t b (record { processor = l; end = e })
ticked-step m answer a p want.Trap h t b l e =
    standing-at m answer a p (Leaving end.Trapped) p.atc p.due p.journal t b (record { processor = l; end = e })

tick-step :
    (m : Machine) (answer : Answer) (a : ℕ) (p : Private) (now : ℕ) → HereOk m a p → TickingOk m a p
    → StandingOk m answer a (ticked m a p now)
tick-step m answer a p now here h =
    let q : Private = record p { turns = p.turns + 1; now = now } in
    let t = here.translations in
    ticked-step m answer a q (want_of m a p.guest) here.limits (record { all_entries = t.all_entries; translations = t.translations })
    (omega (arith, h.left)) h.processor refl

switch-step :
    (m : Machine) (answer : Answer) (a : ℕ) (p : Private) (space : ℕ) → HereOk m a p → SwitchingOk m a p space
    → StandingOk m answer a (at (switched m a p) (scan_from m p.turns space 0 moment.Activation TurnOver))
switch-step m answer a p space here h =
    let q : Private = record p { guest = guest_after m a p.guest 0 } in
    let t = here.translations in
    let is : q.guest.space ≡ space = space-guest_after m a p.guest 0 ∙ ap (space_after p.guest.space) h.wants in
    let next = scan_from-ok m answer a q 0 moment.Activation TurnOver h.processor here.turns_most refl here.turns_most in
    standing-at m answer a q (scan_from m p.turns space 0 moment.Activation TurnOver) _ p.due p.journal
    (record { all_entries = t.all_entries; translations = t.translations }) here.turns_most
    (subst (λ x. PlaceOk m answer a q (scan_from m p.turns x 0 moment.Activation TurnOver)) is next)

-- the lock of a directory of the machine
dir_word-dir : (m : Machine) (n : ℕ) → is_dir_word m n ≡ true → is_dir m (dir_read n) ≡ true
dir_word-dir m n h = (and_parts _ (is_dir m (dir_read n)) h).1

locked-ok :
    (m : Machine) (answer : Answer) (a : ℕ) (p : Private) (fault : Fault) (n : ℕ) → HereOk m a p → LockingOk m a p fault
    → is_dir_word m n ≡ true → PlaceOk m answer a p (lock_place_after m a fault n)
locked-ok m answer a p fault n here h e =
    let phase : Phase = if a == m.nodes && not (dir_read n).frozen then Returning else Stamping in
    cond_both (is_locked n) (if a == m.nodes then Locking fault else Polling (Relock fault))
    (InSession (session_at fault (dir_read n) phase)) (PlaceOk m answer a p)
    (λ _. cond_both (a == m.nodes) (Locking fault) (Polling (Relock fault)) (PlaceOk m answer a p)
    (λ _. h)
    (λ q. record { processor = processor_of q here.actor; leads = refl; behind = h }))
    (λ _. cond_both (a == m.nodes && not (dir_read n).frozen) Returning Stamping
    (λ x. PlaceOk m answer a p (InSession (session_at fault (dir_read n) x)))
    (λ q. let both = and_parts (a == m.nodes) (not (dir_read n).frozen) q in
    let daemon = eqb-true a m.nodes both.0 in
    record {
      fault = h.locks;
      dir = dir_word-dir m n e;
      phase = record { lacks = h.lacks; empty = λ l. not_daemon m a l daemon; thawed = λ _. not-true (dir_read n).frozen both.1 };
    })
    (λ q. record {
      fault = h.locks;
      dir = dir_word-dir m n e;
      phase = record { lacks = h.lacks; frozen = λ d. frozen_by (dir_read n).frozen d q };
    }))
  where
    processor_of : (a == m.nodes) ≡ false → IsActor m a → a < m.nodes
    processor_of q (inl l) = l
    processor_of q (inr d) = absurd (eqb-false a m.nodes q d)

    frozen_by : (b : Bool) → a ≡ m.nodes → (a == m.nodes && not b) ≡ false → b ≡ true
    frozen_by true d q = refl
    frozen_by false d q = absurd (true≢false (sym (and_from (a == m.nodes) true (eq-eqb a m.nodes d) refl) ∙ q))

pages-some : (m : Machine) → IsWithinLimits m → 0 < m.pages
pages-some m h = let l = holds_at (λ b. b) (limits m) 3 true h (omega arith) in grind (arith, nat_tests)

pass-step :
    (m : Machine) (answer : Answer) (a : ℕ) (p : Private) (n : ℕ) → HereOk m a p → a ≡ m.nodes → StandingOk m answer a (pass_begun p n)
pass-step m answer a p n here e =
    let t = here.translations in
    let q : Private = record p { now = n } in
    cond_both (nat_lt n p.due) (at p LiveLooking) (record p { now = n; place = Locking (thaw_of 0) }) (StandingOk m answer a)
    (λ _. standing-at m answer a p LiveLooking p.atc p.due p.journal t here.turns_most e)
    (λ _. standing-at m answer a q (Locking (thaw_of 0)) p.atc p.due p.journal
    (record { all_entries = t.all_entries; translations = t.translations }) here.turns_most
    (thaw-locked m answer a q 0 e (pages-some m here.limits)))

-- ---- any step

place-step :
    (m : Machine) (answer : Answer) (a : ℕ) (p : Private) (n : ℕ) (place : Place) → HereOk m a p → PlaceOk m answer a p place
    → is_followed m (named_next m answer a p place) n ≡ true → StandingOk m answer a (moved_at m answer a p n place)
place-step m answer a p n (Polling onward) here h e =
    standing-at m answer a p (poll_place m p onward n) p.atc p.due p.journal here.translations here.turns_most
    (poll_place-ok m answer a p onward n here.turns_most h)
place-step m answer a p n (Looking i moment onward) here h e =
    standing-at m answer a p (look_place m a p i moment onward n) p.atc p.due p.journal here.translations here.turns_most
    (look_place-ok m answer a p i moment onward n here.turns_most h)
place-step m answer a p n (Applying i msg moment onward) here h e = apply-step m answer a p i msg moment onward here h
place-step m answer a p n Ticking here h e = tick-step m answer a p (n + 1) here h
place-step m answer a p n (Switching space) here h e = switch-step m answer a p space here h
place-step m answer a p n Loading here h e = over-step m answer a p _ here.translations here.turns_most h.processor
place-step m answer a p n Expecting here h e =
    standing-at m answer a p (Exchanging n) p.atc p.due p.journal here.translations here.turns_most (record { access = h; word = e })
place-step m answer a p n (Exchanging seen) here h e =
    cond_both (n == seen) (access_over m a p n) (at p (Exchanging n)) (StandingOk m answer a)
    (λ _. over-step m answer a p _ here.translations here.turns_most h.access.processor)
    (λ _. standing-at m answer a p (Exchanging n) p.atc p.due p.journal here.translations here.turns_most
    (record { access = h.access; word = e }))
place-step m answer a p n (Locking fault) here h e =
    standing-at m answer a p (lock_place_after m a fault n) p.atc p.due p.journal here.translations here.turns_most
    (locked-ok m answer a p fault n here h e)
place-step m answer a p n (InSession s) here h e = session-step m answer a p n s.fault s.dir s.phase here h e
place-step m answer a p n (Leaving x) here h e =
    standing-at m answer a p (Lessening x) p.atc p.due p.journal here.translations here.turns_most h
place-step m answer a p n (Lessening x) here h e =
    standing-at m answer a p (Gone x) p.atc p.due p.journal here.translations here.turns_most h
place-step m answer a p n (Gone x) here h e = absurd cc
place-step m answer a p n LiveLooking here h e =
    standing-at m answer a p (if n == 0 then Over else TimeLooking) p.atc p.due p.journal here.translations here.turns_most
    (cond_both (n == 0) Over TimeLooking (PlaceOk m answer a p) (λ _. h) (λ _. h))
place-step m answer a p n TimeLooking here h e = pass-step m answer a p n here h
place-step m answer a p n Over here h e = absurd cc

-- the journal tells nothing of it
with_journal : (m : Machine) (answer : Answer) (a : ℕ) (p : Private) (j : List Item) → StandingOk m answer a p →
    StandingOk m answer a (record p { journal = j })
with_journal m answer a p j h =
    standing-at m answer a p p.place p.atc p.due j (record { all_entries = h.all_entries; translations = h.translations })
    h.turns_most h.place

pub standing-kept :
    (m : Machine) (answer : Answer) (a : ℕ) (p : Private) (n : ℕ) → IsWithinLimits m → IsActor m a
    → is_followed m (named_next m answer a p p.place) n ≡ true → StandingOk m answer a p → StandingOk m answer a (followed m answer a p n)
standing-kept m answer a p n limits actor e h =
    let here : HereOk m a p = record {
      limits = limits;
      actor = actor;
      translations = record { all_entries = h.all_entries; translations = h.translations };
      turns_most = h.turns_most;
    } in
    with_journal m answer a (moved_at m answer a p n p.place) (with_item p.journal (item_at m answer a p n p.place))
    (place-step m answer a p n p.place here h.place e)

-- ---- the start

is_actor-cases : (nodes a : ℕ) (daemon : Bool) → a < nodes + (if daemon then 1 else 0) → (a < nodes) ⊎ (a ≡ nodes)
is_actor-cases nodes a true l =
    elim (cases_lt a nodes) [
      | inl k ↦ inl k
      | inr k ↦ inr (omega arith)
    ]
is_actor-cases nodes a false l = inl (omega arith)

pub actor-is : (m : Machine) (a : ℕ) → a < actor_count m → IsActor m a
actor-is m a l = is_actor-cases m.nodes a (has_daemon m.policy) l

none_at : (n e : ℕ) (t : Translation) → get_or (replicate n None) e None ≡ Some t → ⊥
none_at zero e t h = absurd cc
none_at (suc n) zero t h = absurd cc
none_at (suc n) (suc e) t h = none_at n e t h

first-place : (m : Machine) (answer : Answer) (a : ℕ) → IsWithinLimits m → IsActor m a →
    PlaceOk m answer a (first_private m a) (first_place m a)
first-place m answer a h actor =
    cond_both (a == m.nodes) LiveLooking (Polling NewTurn) (PlaceOk m answer a (first_private m a))
    (λ e. eqb-true a m.nodes e)
    (λ e. record { processor = processor_of e actor; leads = refl; behind = omega (arith, budget-some m h) })
  where
    processor_of : (a == m.nodes) ≡ false → IsActor m a → a < m.nodes
    processor_of q (inl l) = l
    processor_of q (inr d) = absurd (eqb-false a m.nodes q d)

pub standing-first : (m : Machine) (answer : Answer) (a : ℕ) → IsWithinLimits m → IsActor m a → StandingOk m answer a (first_private m a)
standing-first m answer a h actor = record {
  all_entries = length-replicate (entry_count m) None;
  translations = λ e t k. absurd (none_at (entry_count m) e t k);
  turns_most = omega arith;
  place = first-place m answer a h actor;
}

pub standing_ok :
    (m : Machine) (answer : Answer) (a : ℕ) (p : Private) → IsWithinLimits m → a < actor_count m → IsReachedAlone m answer a p
    → StandingOk m answer a p
standing_ok m answer a p h l r =
    let actor = actor-is m a l in
    alone-keeps m answer a (StandingOk m answer a) (λ q n e k. standing-kept m answer a q n h actor e k)
    (standing-first m answer a h actor) p r
