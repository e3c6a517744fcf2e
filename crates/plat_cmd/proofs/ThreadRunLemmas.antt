-- a run on threads: its merge has few items, breaks no rule, and every processor ended
use Rattle.std.proofs.Common.{◌≡◌, ℕ, zero, suc, replicate, ◌<◌, ◌≤◌, true, false, Bool, List, [], ◌∷◌, length, refl, sym, ap, subst, ◌∙◌}
use Rattle.std.proofs.Common.{arith}
use Rattle.std.specs.Prelude.{Option, None, Some, Result, IsTrue, not, All, slice_index_or, ◌||◌}
use Rattle.std.specs.List.{list_any}
use Rattle.std.specs.Option.{option_to_list, option_map_or}
use Rattle.std.proofs.lemmas.Bool.{true≢false}
use Rattle.std.proofs.lemmas.List.{length-append, length-replicate}
use Rattle.plat_base.specs.Alike.{same_end}
use Rattle.plat_base.specs.Ends.{cut_at}
use Rattle.plat_base.specs.Machine.{Machine}
use Rattle.plat_base.specs.Pages.{numbers}
use Rattle.plat_base.specs.Rooms.{processor_room, daemon_room, journal_rooms, fit_rooms}
use Rattle.plat_base.specs.Runs.{IsCoherentRun, IsOver}
use Rattle.plat_base.specs.Statuses.{status_of, ends_as}
use Rattle.plat_base.specs.Verdicts.{Answer, policy_answer}
use Rattle.plat_base.specs.declared.endings.End.{End}
use Rattle.plat_base.specs.declared.endings.End.TheVariants as end
use Rattle.plat_base.specs.declared.endings.Ended.{Ended}
use Rattle.plat_base.specs.declared.items.Item.{Item}
use Rattle.plat_base.specs.declared.statuses.Status.{Status}
use Rattle.plat_base.proofs.LimitLemmas.{limits_of}
use Rattle.plat_base.proofs.RoomLemmas.{journal_rooms-most, lengths-most}
use Rattle.plat_laws.specs.Guests.{IsWithinLimits}
use Rattle.plat_events.specs.Merges.{Journals, ready_actor, next_item, without_next, items_left, placed_first, merge_step, merge_from}
use Rattle.plat_events.specs.Merges.{merged}
use Rattle.plat_events.specs.Privates.{Private, is_over}
use Rattle.plat_events.specs.Runs.{fine_start, run, ends_of, AllLive}
use Rattle.plat_event_laws.proofs.LiveLaws.{live-among}
use Rattle.plat_event_laws.proofs.RunLaws.{run-shows}
use Rattle.plat_event_laws.proofs.ScheduledLaws.{cut-live}
use Rattle.plat_fine.specs.FineSeen.{is_live}
use Rattle.plat_io.specs.Adds.{Adds}
use Rattle.plat_io.specs.declared.faults.WriteFault.{WriteFault}
use Rattle.plat_io.specs.declared.sinks.Sink.{Ghosts}
use Rattle.plat_merge.specs.RoomSeen.{HaveGoodHistory}
use Rattle.plat_merge_laws.proofs.MergeLaws.{merges-good}
use Rattle.plat_table.specs.Closed.{ClosedSeen, IsRun, HasGoodHistory}
use Rattle.plat_cmd.specs.Works.{output_of, IsThreadRun, HasThreaded}
use Rattle.plat_cmd.specs.Steps.{status_after}
use Rattle.plat_cmd.specs.declared.words.Output.{Output}
use Rattle.plat_cmd.proofs.EndingLemmas.{written_by, ended_by, no_write_fault}
use Rattle.plat_cmd.proofs.GoodLemmas.{good_is_coherent}
use Rattle.plat_base.proofs.ChoiceLemmas.{filter-among}
use Rattle.plat_table.proofs.CrewLemmas.{All-get}

-- ---- a merge places no more items than there are

merge_from-most : (k : ℕ) (left : Journals) → length (merge_from k left) ≤ k
merge_from-most zero left = omega arith
merge_from-most (suc k) left = by (ready_actor left) (merge_from-most k)
  where
    placed : (i : Option Item) (rest : List Item) → length rest ≤ k → length (placed_first i rest) ≤ suc k
    placed None rest h = omega arith
    placed (Some x) rest h = omega (arith, h)

    by :
        (a : Option ℕ) → ((rest : Journals) → length (merge_from k rest) ≤ k)
        → length (merge_step (λ rest. merge_from k rest) left a) ≤ suc k
    by None most = omega arith
    by (Some a) most = placed (next_item left a) (merge_from k (without_next left a)) (most (without_next left a))

merged-most : (journals : Journals) → length (merged journals) ≤ items_left journals
unfolding merged
merged-most journals = merge_from-most (items_left journals) journals

pub merged-few :
    (m : Machine) (rooms : List ℕ) (journals : Journals) → IsWithinLimits m → rooms ≡ journal_rooms m
    → IsTrue (fit_rooms rooms journals) → length (merged journals) ≤ 2621440
merged-few m rooms journals limits made fits =
    let fit = subst (λ rs. IsTrue (fit_rooms rs journals)) made fits in
    omega (arith, merged-most journals, lengths-most (journal_rooms m) journals fit, journal_rooms-most m limits)

pub rooms-some : (m : Machine) → IsWithinLimits m → 0 < length (journal_rooms m)
rooms-some m h =
    let l = limits_of m h in
    let daemon = daemon_room m.nodes m.budget m.pages m.policy in
    omega (
      arith,
      length-append (replicate m.nodes (processor_room m.budget)) (option_to_list daemon),
      length-replicate m.nodes (processor_room m.budget),
      l.nodes_least,
    )

-- ---- every processor ended

-- an end that is so is found
any-at : (p : Ended → Bool) (xs : List Ended) (i : ℕ) → i < length xs → p (slice_index_or xs i (cut_at 0)) ≡ true → list_any p xs ≡ true
any-at p [] i inside h = absurd (omega (arith, inside))
any-at p (x ∷ xs) zero inside h = rw h refl
any-at p (x ∷ xs) (suc i) inside h = by (p x) (any-at p xs i (omega (arith, inside)) h)
  where
    by : (b : Bool) → list_any p xs ≡ true → (b || list_any p xs) ≡ true
    by true k = refl
    by false k = k

module _ (m : Machine) (answer : Answer) (who : List ℕ) (limits : IsWithinLimits m) (live : AllLive m answer (fine_start m) who)
    (over : All (λ (p : Private). is_over p.place ≡ true) (run m answer who).privates) where
  none-cut : ends_as end.Cut (ends_of m (run m answer who).privates) ≡ true → ⊥
  none-cut cut =
      let found = cut-live m answer (run m answer who) limits (run-shows m answer limits who live) cut in
      let s = run m answer who in
      let p = found.1.0 in
      let there = found.1.1 in
      let is = All-get (λ (p : Private). is_over p.place ≡ true) s.privates found.0 p over there in
      true≢false
      (sym (filter-among (is_live s.privates) (numbers (length s.privates)) found.0 (live-among m answer s found.0 found.1))
      ∙ (ap (λ (o : Option Private). option_map_or (λ (p : Private). not (is_over p.place)) o false) there ∙ ap not is))

  pub none-left : (ends : List Ended) → ends ≡ ends_of m (run m answer who).privates → m.nodes ≤ length ends → IsOver m ends
  none-left ends are all q inside cut =
      none-cut
      (ap (ends_as end.Cut) (sym are)
      ∙ any-at (λ (x : Ended). same_end x.end end.Cut) ends q (omega (arith, inside, all)) (ap (λ (e : End). same_end e end.Cut) cut))

-- ---- what is known of the run

pub good_by : (x : ClosedSeen) (m : Machine) → x.machine ≡ m → HasGoodHistory x → HaveGoodHistory m x.journals.lists
good_by x m same h =
    subst (λ (n : Machine). HaveGoodHistory n x.journals.lists) same
    (record { answer = policy_answer x.machine.policy; items = h.items; ends = x.ends; has = h.has; good = h.good })

module _ (x : ClosedSeen) (limits : IsWithinLimits x.machine) (ran : IsRun x) (good : HasGoodHistory x) where
  merge_coherent : IsCoherentRun x.machine (policy_answer x.machine.policy) (merged x.journals.lists) x.ends
  merge_coherent =
      good_is_coherent x.machine (policy_answer x.machine.policy) (merged x.journals.lists) x.ends
      (merges-good x.machine (policy_answer x.machine.policy) good.items x.journals.lists x.ends good.has good.good).good

  pub thread_run : (m : Machine) (kept : List Item) → x.machine ≡ m → kept ≡ merged x.journals.lists → IsThreadRun m x kept
  thread_run m kept same is =
      subst (λ (n : Machine). IsThreadRun n x kept) same
      (subst (λ (items : List Item). IsThreadRun x.machine x items) (sym is)
      (record {
        machine = refl;
        run = ran;
        history = refl;
        coherent = merge_coherent;
        over =
            none-left x.machine (policy_answer x.machine.policy) ran.who limits ran.is_run.live ran.is_run.over x.ends ran.is_run.ends
            (let all = merge_coherent.one.all_end in omega (arith, all));
      }))

-- what holds of a machine, its history and its ends holds of equal ones
pub same_run :
    (P : Machine → List Item → List Ended → Type 0) (m n : Machine) (is js : List Item) (es fs : List Ended) → n ≡ m → js ≡ is → fs ≡ es
    → P n js fs → P m is es
same_run P m n is js es fs same same_is same_es h =
    subst (λ (k : Machine). P k is es) same
    (subst (λ (items : List Item). P n items es) same_is (subst (λ (ends : List Ended). P n js ends) same_es h))

pub has_threaded :
    {K : Type 0} (o : Output) (sink : Ghosts K) (m : Machine) (left : ClosedSeen) (old new : K) (writing : Result (Unit {0}) WriteFault)
    (now : Status) (kept : List Item) (ran : Option ClosedSeen) → ran ≡ Some left → IsThreadRun m left kept
    → now ≡ status_after (status_of left.ends false) writing
    → Adds sink old new writing (output_of o m kept left.ends) → HasThreaded o sink m old new now kept ran
has_threaded o sink m left old new writing now kept ran is run now_is adds =
    let complete = status_of left.ends false in
    record {
      left = left;
      threads = is;
      run = run;
      written = written_by sink old new writing (output_of o m kept left.ends) complete now (no_write_fault left.ends false) now_is adds;
      ended = ended_by writing complete now now_is;
    }
