-- the run of single operations of the schedule is that of the definition
use Rattle.std.proofs.Common.{◌≡◌, ℕ, zero, suc, ◌+◌, ◌<◌, ◌≤◌, leb, ⊎_elim, if◌then◌else◌, Bool, true, false, List, [], ◌∷◌, length}
use Rattle.std.proofs.Common.{refl, sym, ap, subst, ◌∙◌, arith}
use Rattle.std.specs.Prelude.{Option, None, Some, slice_get, slice_set, filter}
use Rattle.std.proofs.lemmas.Bool.{cases_Bool, leb-true, leb-false}
use Rattle.std.proofs.lemmas.List.{length-map, length-set}
use Rattle.std.proofs.lemmas.List.Elements.{filter_agree}
use Rattle.std.proofs.lemmas.List.FromFn.{length-range_with_len}
use Rattle.plat_base.specs.Machine.{Machine}
use Rattle.plat_base.specs.Pages.{numbers}
use Rattle.plat_base.specs.Rules.{has_daemon}
use Rattle.plat_base.specs.Schedule.{Chooser, choose}
use Rattle.plat_base.specs.Verdicts.{Answer, policy_answer}
use Rattle.plat_base.specs.declared.words.Op.{Op}
use Rattle.plat_events.specs.Privates.{Private, actor_count, first_private}
use Rattle.plat_events.specs.Events.{next_of}
use Rattle.plat_events.specs.Runs.{Fine, ScheduledFine, event_at, event_by, event, live_actors, with_chosen, scheduled_events, most_events}
use Rattle.plat_events.specs.Runs.{fine_run}
use Rattle.plat_base.proofs.ChoiceLemmas.{choose-among, filter-among}
use Rattle.plat_fine.specs.FineSeen.{FineSeen, is_live, event_in}
use Rattle.plat_sched.specs.Actors.{is_set}
use Rattle.plat_sched.specs.ScheduleSeen.{ScheduleSeen}
use Rattle.plat_cmd.specs.Steps.{standing_fine, own_event, after_events}
use Rattle.plat_cmd.proofs.StepLemmas.{next_is, over_is}

-- ---- live actors

-- an actor that a schedule chooses is live
pub chosen_live : (x : FineSeen) (c : ℕ × Chooser) (s : ScheduleSeen)
    → choose x.machine.schedule (live_actors x.fine.privates) s.chooser ≡ Some c → is_live x.fine.privates c.0 ≡ true
chosen_live x c s chosen =
    let privates = x.fine.privates in
    filter-among (is_live privates) (numbers (length privates)) c.0
    (choose-among x.machine.schedule (live_actors privates) s.chooser c chosen)

-- an actor that is not there is not live
pub absent_live : (privates : List Private) (a : ℕ) → length privates ≤ a → is_live privates a ≡ false
absent_live [] a h = refl
absent_live (p ∷ privates) zero h = absurd (omega (arith, h))
absent_live (p ∷ privates) (suc a) h = absent_live privates a (omega (arith, h))

-- a bit behind those that were set is clear, and so is that of an actor that is not there
pub clear_or_absent : (privates : List Private) (live n a : ℕ) → (a < n → is_set live a ≡ is_live privates a) →
    (n ≤ a → is_set live a ≡ false)
    → length privates ≤ a → is_set live a ≡ false
clear_or_absent privates live n a set clear absent =
    ⊎_elim (λ behind. clear (leb-true n a behind)) (λ before. set (leb-false n a before) ∙ absent_live privates a absent)
    (cases_Bool (leb n a))

-- the actors are the processors and at most one more
pub count-most : (m : Machine) → actor_count m ≤ m.nodes + 1
count-most m = by (has_daemon m.policy)
  where
    by : (b : Bool) → m.nodes + (if b then 1 else 0) ≤ m.nodes + 1
    by true = omega arith
    by false = omega arith

-- ---- all actors stay

event-actors : (m : Machine) (answer : Answer) (s : Fine) (a : ℕ) → length (event m answer s a).privates ≡ length s.privates
event-actors m answer s a = by (slice_get s.privates a)
  where
    made : (p : Private) (o : Option (ℕ × Op)) → length (event_at m answer s a p o).privates ≡ length s.privates
    made p None = refl
    made p (Some x) = length-set s.privates a _

    by : (o : Option Private) → length (event_by m answer s a o).privates ≡ length s.privates
    by None = refl
    by (Some p) = made p (next_of m answer a p)

events-actors : (m : Machine) (k : ℕ) → length (after_events m k).fine.privates ≡ actor_count m
events-actors m zero = length-map (numbers (actor_count m)) (first_private m) ∙ length-range_with_len 0 (actor_count m)
events-actors m (suc k) = by (after_events m k) (events-actors m k) _
  where
    by : (x : ScheduledFine) → length x.fine.privates ≡ actor_count m → (o : Option (ℕ × Chooser))
        → length (with_chosen m (policy_answer m.policy) x o).fine.privates ≡ actor_count m
    by x before None = before
    by x before (Some c) = event-actors m (policy_answer m.policy) x.fine c.0 ∙ before

-- every actor is there after some events
pub actors_are_there : (m n : Machine) (x : ScheduledFine) (k : ℕ) → n ≡ m → x ≡ after_events m k → length x.fine.privates ≡ actor_count n
actors_are_there m n x k same before =
    ap (λ (y : ScheduledFine). length y.fine.privates) before ∙ (events-actors m k ∙ ap actor_count (sym same))

pub all_actors_stay : (x : FineSeen) (a : ℕ) → length (event_in x a).privates ≡ length x.fine.privates
all_actors_stay x a = event-actors x.machine (policy_answer x.machine.policy) x.fine a

-- ---- the live actors after an event of one that did not end

live_set : (privates : List Private) (a : ℕ) (after : Private) → is_live privates a ≡ true
    → is_live (slice_set privates a after) a ≡ true → (b : ℕ) → is_live (slice_set privates a after) b ≡ is_live privates b
live_set [] a after was is b = refl
live_set (p ∷ privates) zero after was is zero = is ∙ sym was
live_set (p ∷ privates) zero after was is (suc b) = refl
live_set (p ∷ privates) (suc a) after was is zero = refl
live_set (p ∷ privates) (suc a) after was is (suc b) = live_set privates a after was is b

live_kept : (privates : List Private) (a : ℕ) (after : Private) → is_live privates a ≡ true
    → is_live (slice_set privates a after) a ≡ true → live_actors (slice_set privates a after) ≡ live_actors privates
live_kept privates a after was is =
    ap (λ (n : ℕ). filter (is_live (slice_set privates a after)) (numbers n)) (length-set privates a after)
    ∙ filter_agree (is_live (slice_set privates a after)) (is_live privates) (live_set privates a after was is) (numbers (length privates))

pub live_stay : (x : FineSeen) (a : ℕ) → is_live x.fine.privates a ≡ true → is_live (event_in x a).privates a ≡ true
    → live_actors (event_in x a).privates ≡ live_actors x.fine.privates
live_stay x a was is = by (slice_get s.privates a) is
  where
    s : Fine
    s = x.fine

    answer : Answer
    answer = policy_answer x.machine.policy

    made : (p : Private) (o : Option (ℕ × Op)) → is_live (event_at x.machine answer s a p o).privates a ≡ true
        → live_actors (event_at x.machine answer s a p o).privates ≡ live_actors s.privates
    made p None now = refl
    made p (Some word) now = live_kept s.privates a _ was now

    by : (o : Option Private) → is_live (event_by x.machine answer s a o).privates a ≡ true
        → live_actors (event_by x.machine answer s a o).privates ≡ live_actors s.privates
    by None now = refl
    by (Some p) now = made p (next_of x.machine answer a p) now

-- ---- event by event

-- the event that was made is that of the actor that was chosen
pub event_is : (x : FineSeen) (s after : ScheduleSeen) (next : Fine) (q : ℕ)
    → choose x.machine.schedule (live_actors x.fine.privates) s.chooser ≡ Some (q, after.chooser)
    → next ≡ event x.machine (policy_answer x.machine.policy) x.fine q
    → record { fine = next; chooser = after.chooser } ≡ own_event x.machine (standing_fine x s)
event_is x s after next q chosen is =
    ap (λ (f : Fine). record { fine = f; chooser = after.chooser }) is
    ∙ ap (with_chosen x.machine (policy_answer x.machine.policy) (standing_fine x s)) (sym chosen)

-- where nobody is chosen an event changes nothing
still_is : (m : Machine) (x : ScheduledFine) → choose m.schedule (live_actors x.fine.privates) x.chooser ≡ None → own_event m x ≡ x
still_is m x none = ap (with_chosen m (policy_answer m.policy) x) none

pub next_event_is : (m n : Machine) (x y : ScheduledFine) (k : ℕ) → n ≡ m → x ≡ after_events m k → y ≡ own_event n x →
    y ≡ after_events m (k + 1)
next_event_is m n x y k same before made =
    next_is (after_events m) (own_event m) (λ i. refl) x y k before (made ∙ ap (λ (i : Machine). own_event i x) same)

-- a run that nobody goes on with is as it would be after all events
pub over_events_is : (m n : Machine) (x y : ScheduledFine) (k events : ℕ) → n ≡ m → x ≡ after_events m k → k ≤ events
    → choose n.schedule (live_actors x.fine.privates) x.chooser ≡ None → y ≡ own_event n x → y ≡ after_events m events
over_events_is m n x y k events same before within none made =
    over_is (after_events m) (own_event m) (λ i. refl) x y k events before within
    (subst (λ (i : Machine). own_event i x ≡ x) same (still_is n x none)) (made ∙ ap (λ (i : Machine). own_event i x) same)

-- the run after the most events is the simulated run
run_is : (m : Machine) (events : ℕ) → events ≡ most_events → (after_events m events).fine ≡ fine_run m (policy_answer m.policy)
unfolding fine_run
run_is m events all = ap (λ (k : ℕ). (scheduled_events m (policy_answer m.policy) k).fine) all

pub made_is : (m n : Machine) (x : ScheduledFine) (events : ℕ) → n ≡ m → events ≡ most_events → x ≡ after_events n events →
    x.fine ≡ fine_run m (policy_answer m.policy)
made_is m n x events same all made =
    ap (λ (s : ScheduledFine). s.fine) (made ∙ ap (λ (i : Machine). after_events i events) same) ∙ run_is m events all
