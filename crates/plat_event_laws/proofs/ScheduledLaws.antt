-- the simulated run is one of the runs of live actors, within its limit of events
use Rattle.std.specs.Prelude.{◌≡◌, ℕ, zero, suc, ◌+◌, ◌<◌, ◌≤◌, ◌==◌, ◌&&◌, if◌then◌else◌, Bool, true, false, List, [], ◌∷◌, ◌++◌, length}
use Rattle.std.specs.Prelude.{Option, Some, None}
use Rattle.std.proofs.Common.{refl, ap, sym, ◌∙◌, ◌⊎◌, inl, inr, arith, subst}
use Rattle.std.proofs.lemmas.Bool.{eq-eqb, true≢false}
use Rattle.std.proofs.lemmas.List.{length-append}
use Rattle.std.proofs.lemmas.List.Sums.{fold-append}
use Rattle.std.proofs.lemmas.Option.{get_or_from_slice_get}
use Rattle.plat_base.specs.Verdicts.{Answer}
use Rattle.plat_base.specs.Machine.{Machine}
use Rattle.plat_base.specs.Rules.{Good, HasEnoughFrames}
use Rattle.plat_base.specs.Schedule.{Chooser, choose}
use Rattle.plat_base.specs.Statuses.{ends_as, status_of}
use Rattle.plat_base.specs.declared.endings.End.TheVariants as end
use Rattle.plat_base.specs.declared.statuses.Status.{Status}
use Rattle.plat_base.specs.declared.statuses.Status.TheVariants as status
use Rattle.plat_laws.specs.Guests.{IsWithinLimits}
use Rattle.plat_events.specs.Privates.{Private, actor_count, first_private}
use Rattle.plat_events.specs.Kept.{private_of}
use Rattle.plat_events.specs.Runs.{Fine, fine_start, event, run_from, run, ends_of, IsLive, AllLive, live_actors, ScheduledFine}
use Rattle.plat_events.specs.Runs.{with_chosen, scheduled_events, most_events, fine_run}
use Rattle.plat_events.specs.Shown.{goes_to, Shows}
use Rattle.plat_local_laws.specs.Standing.{PlaceOk}
use Rattle.plat_fine_laws.proofs.AloneLaws.{alone_ok}
use Rattle.plat_event_laws.specs.Scheduled.{IsRunWithin}
use Rattle.plat_base.proofs.ChoiceLemmas.{choose-among, choose-none, choose-nobody}
use Rattle.plat_event_laws.proofs.LiveLaws.{among-live, none-live, live-private, ends-so, cut-goes_on, starved-goes_to}
use Rattle.plat_event_laws.proofs.RunLaws.{run-shows}

-- ---- one more event

module _ (m : Machine) (answer : Answer) where
  all_live-more : (who : List ℕ) (s : Fine) (a : ℕ) → AllLive m answer s who → IsLive m answer (run_from m answer s who) a →
      AllLive m answer s (who ++ a ∷ [])
  all_live-more [] s a live next = (next, tt)
  all_live-more (b ∷ who) s a live next = (live.0, all_live-more who (event m answer s b) a live.1 next)

  run-start : fine_start m ≡ run m answer []
  unfolding run
  run-start = refl

  run-more : (who : List ℕ) (a : ℕ) → run m answer (who ++ a ∷ []) ≡ event m answer (run m answer who) a
  unfolding run
  run-more who a = fold-append (event m answer) (fine_start m) who (a ∷ [])

  run-live : (who : List ℕ) (a : ℕ) → AllLive m answer (fine_start m) who → IsLive m answer (run m answer who) a →
      AllLive m answer (fine_start m) (who ++ a ∷ [])
  unfolding run
  run-live who a live next = all_live-more who (fine_start m) a live next

  -- ---- by the schedule

  -- a run of live actors of k events, or of fewer, where nobody is live any more
  record MakesEvents (k : ℕ) (s : Fine) : Type 0 where
    who : List ℕ
    all_live : AllLive m answer (fine_start m) who
    is_run : s ≡ run m answer who
    most : length who ≤ k
    whole : (live_actors s.privates ≡ []) ⊎ (length who ≡ k)

  more : (k : ℕ) (s : Fine) (a : ℕ) → MakesEvents k s → IsLive m answer s a →
      (live_actors s.privates ≡ [] → ⊥) → MakesEvents (suc k) (event m answer s a)
  more k s a made live some =
      let next : IsLive m answer (run m answer made.who) a = subst (λ t. IsLive m answer t a) made.is_run live in
      let one : length (made.who ++ a ∷ []) ≡ length made.who + 1 = length-append made.who (a ∷ []) in
      let all = by made.whole in
      record {
        who = made.who ++ a ∷ [];
        all_live = run-live made.who a made.all_live next;
        is_run = ap (λ t. event m answer t a) made.is_run ∙ sym (run-more made.who a);
        most = omega (arith, one, all);
        whole = inr (omega (arith, one, all));
      }
    where
      by : (live_actors s.privates ≡ []) ⊎ (length made.who ≡ k) → length made.who ≡ k
      by (inl none) = absurd (some none)
      by (inr all) = all

  makes-events : (k : ℕ) → MakesEvents k (scheduled_events m answer k).fine
  makes-events zero = record {
    who = [];
    all_live = tt;
    is_run = run-start;
    most = omega arith;
    whole = inr refl;
  }
  makes-events (suc k) =
      let x = scheduled_events m answer k in
      by x (makes-events k) (choose m.schedule (live_actors x.fine.privates) x.chooser) refl
    where
      by : (x : ScheduledFine) → MakesEvents k x.fine → (o : Option (ℕ × Chooser)) →
          choose m.schedule (live_actors x.fine.privates) x.chooser ≡ o → MakesEvents (suc k) (with_chosen m answer x o).fine
      by x made None e =
          let most = made.most in
          record {
            who = made.who;
            all_live = made.all_live;
            is_run = made.is_run;
            most = omega (arith, most);
            whole = inl (choose-none m.schedule (live_actors x.fine.privates) x.chooser e);
          }
      by x made (Some c) e =
          more k x.fine c.0 made
          (among-live m answer x.fine c.0 (choose-among m.schedule (live_actors x.fine.privates) x.chooser c e)) some
        where
          some : live_actors x.fine.privates ≡ [] → ⊥
          some none = cc (choose-nobody m.schedule x.chooser, ap (λ l. choose m.schedule l x.chooser) none)

  -- where nobody is live any more, further events change nothing
  pub scheduled-over : (n k : ℕ) → live_actors (scheduled_events m answer k).fine.privates ≡ [] →
      scheduled_events m answer (n + k) ≡ scheduled_events m answer k
  scheduled-over zero k none = let number : zero + k ≡ k = omega arith in ap (scheduled_events m answer) number
  scheduled-over (suc n) k none =
      let number : suc n + k ≡ suc (n + k) = omega arith in
      ap (scheduled_events m answer) number ∙ still (scheduled_events m answer (n + k)) (scheduled-over n k none)
    where
      still : (x : ScheduledFine) → x ≡ scheduled_events m answer k →
          with_chosen m answer x (choose m.schedule (live_actors x.fine.privates) x.chooser) ≡ scheduled_events m answer k
      still x same =
          let over : live_actors x.fine.privates ≡ [] = ap (λ (y : ScheduledFine). live_actors y.fine.privates) same ∙ none in
          ap (with_chosen m answer x)
          (ap (λ l. choose m.schedule l x.chooser) over ∙ choose-nobody m.schedule x.chooser)
          ∙ same

-- ---- ends

module _ (m : Machine) (answer : Answer) (s : Fine) (limits : IsWithinLimits m) (shows : Shows m answer s) where
  -- a processor whose end is cut is live
  pub cut-live : ends_as end.Cut (ends_of m s.privates) ≡ true → (a : ℕ) × IsLive m answer s a
  cut-live cut =
      let found = ends-so m.nodes s.privates end.Cut cut in
      let here : private_of m s found.actor ≡ found.private =
      get_or_from_slice_get s.privates found.actor found.private (first_private m found.actor) found.stands in
      let within : found.actor < actor_count m = let node = found.processor in omega (arith, node) in
      let ok : PlaceOk m answer found.actor found.private found.private.place =
      subst (λ (p : Private). PlaceOk m answer found.actor p p.place) here
      (alone_ok m answer s found.actor limits shows within).standing.place in (
        found.actor,
        live-private m answer s found.actor found.private found.stands
            (cut-goes_on m answer found.actor found.private found.private.place ok found.processor found.ends),
      )

  -- with enough frames no processor ended for want of them
  pub enough-ends : HasEnoughFrames m → ends_as end.NoFrames (ends_of m s.privates) ≡ false
  enough-ends enough = by (ends_as end.NoFrames (ends_of m s.privates)) refl
    where
      by : (b : Bool) → ends_as end.NoFrames (ends_of m s.privates) ≡ b → ends_as end.NoFrames (ends_of m s.privates) ≡ false
      by false e = e
      by true e =
          let found = ends-so m.nodes s.privates end.NoFrames e in
          let here : private_of m s found.actor ≡ found.private =
          get_or_from_slice_get s.privates found.actor found.private (first_private m found.actor) found.stands in
          let within : found.actor < actor_count m = let node = found.processor in omega (arith, node) in
          absurd
          (shows.enough_stays enough found.actor within
          (ap (λ (p : Private). goes_to p.place) here ∙ starved-goes_to found.private.place found.ends))

-- ---- the simulated run

module _ (m : Machine) (answer : Answer) (limits : IsWithinLimits m) where
  pub scheduled-shows : (k : ℕ) → Shows m answer (scheduled_events m answer k).fine
  scheduled-shows k =
      let made = makes-events m answer k in subst (Shows m answer) (sym made.is_run) (run-shows m answer limits made.who made.all_live)

  pub scheduled-run : (k : ℕ) → IsRunWithin m answer k (scheduled_events m answer k).fine
  scheduled-run k = by (scheduled_events m answer k).fine (makes-events m answer k) (scheduled-shows k)
    where
      whole : (s : Fine) (a n : ℕ) → (live_actors s.privates ≡ []) ⊎ (n ≡ k) → IsLive m answer s a → n ≡ k
      whole s a n (inl none) live = absurd (none-live m answer s a none live)
      whole s a n (inr all) live = all

      by : (s : Fine) → MakesEvents m answer k s → Shows m answer s → IsRunWithin m answer k s
      by s made shows = record {
        who = made.who;
        all_live = made.all_live;
        is_run = made.is_run;
        most = made.most;
        whole = λ a live. whole s a (length made.who) made.whole live;
        cut = λ cut. let live = cut-live m answer s limits shows cut in whole s live.0 (length made.who) made.whole live.1;
      }

  pub fine_run-scheduled : IsRunWithin m answer most_events (fine_run m answer)
  unfolding fine_run
  fine_run-scheduled = scheduled-run most_events

  pub fine_run-shows : Shows m answer (fine_run m answer)
  unfolding fine_run
  fine_run-shows = scheduled-shows most_events

  pub fine_run-good : Good m answer (fine_run m answer).history (ends_of m (fine_run m answer).privates)
  fine_run-good = fine_run-shows.history_good

  pub run-enough :
      HasEnoughFrames m → (who : List ℕ) → AllLive m answer (fine_start m) who →
      ends_as end.NoFrames (ends_of m (run m answer who).privates) ≡ false
  run-enough enough who live = enough-ends m answer (run m answer who) limits (run-shows m answer limits who live) enough

  pub fine_run-enough : HasEnoughFrames m → ends_as end.NoFrames (ends_of m (fine_run m answer).privates) ≡ false
  fine_run-enough enough = enough-ends m answer (fine_run m answer) limits fine_run-shows enough

-- ---- the status of a run

limit-cut : (limit cut : Bool) (other : Status) → (cut ≡ true → limit ≡ true) →
    (if limit && cut then status.EventLimit else other) ≡ (if true && cut then status.EventLimit else other)
limit-cut true cut other h = refl
limit-cut false true other h = absurd (true≢false (sym (h refl)))
limit-cut false false other h = refl

-- a run answers by its ends alone: event limit exactly where some end is cut, since it then has made all its events
pub within-status :
    (m : Machine) (answer : Answer) (limit : ℕ) (s : Fine) (r : IsRunWithin m answer limit s) →
    status_of (ends_of m s.privates) (length r.who == limit) ≡ status_of (ends_of m s.privates) true
within-status m answer limit s r =
    limit-cut (length r.who == limit) (ends_as end.Cut (ends_of m s.privates))
    (if ends_as end.NoFrames (ends_of m s.privates) then status.NoFrames
    else if ends_as end.Spent (ends_of m s.privates) then status.Spent
    else status.Done)
    (λ cut. eq-eqb (length r.who) limit (r.cut cut))
