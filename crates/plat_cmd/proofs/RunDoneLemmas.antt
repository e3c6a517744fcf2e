-- a run that was made and kept, and whose output was written
use Rattle.std.proofs.Common.{◌≡◌, List, refl, sym, subst, ◌∙◌}
use Rattle.std.specs.Prelude.{Option, None, Result}
use Rattle.plat_base.specs.Coherent.{FindsFrameWord}
use Rattle.plat_base.specs.Histories.{AtEachAccess}
use Rattle.plat_laws.specs.Guests.{IsWithinLimits}
use Rattle.plat_base.specs.Machine.{Machine}
use Rattle.plat_base.specs.Rules.{Good}
use Rattle.plat_base.specs.Runs.{IsCoherentRun}
use Rattle.plat_base.specs.Statuses.{status_of}
use Rattle.plat_base.specs.Verdicts.{Answer}
use Rattle.plat_base.specs.declared.endings.Ended.{Ended}
use Rattle.plat_base.specs.declared.items.Item.{Item}
use Rattle.plat_base.specs.declared.statuses.Status.{Status}
use Rattle.plat_io.specs.Adds.{Adds}
use Rattle.plat_io.specs.declared.faults.WriteFault.{WriteFault}
use Rattle.plat_io.specs.declared.sinks.Sink.{Ghosts}
use Rattle.plat_coarse_laws.proofs.CoherentLaws.{run_finds_words}
use Rattle.plat_coarse_laws.proofs.CoarseRunLaws.{coarse_run_coherent}
use Rattle.plat_coarse_laws.proofs.TurnLaws.{run_good, run_not_cut}
use Rattle.plat_event_laws.proofs.ScheduledLaws.{fine_run-good, fine_run-scheduled}
use Rattle.plat_table.specs.Closed.{ClosedSeen}
use Rattle.plat_cmd.specs.Works.{history_under, ends_under, is_limited, output_of, IsRunOf, IsWritten, IsOrWriteFault, HasRun}
use Rattle.plat_cmd.specs.Steps.{HasShown, status_after}
use Rattle.plat_cmd.specs.declared.words.Grain.{Grain}
use Rattle.plat_cmd.specs.declared.words.Grain.TheVariants as grain
use Rattle.plat_cmd.specs.declared.words.Output.{Output}
use Rattle.plat_cmd.proofs.EndingLemmas.{written_by, ended_by, no_write_fault}
use Rattle.plat_cmd.proofs.GoodLemmas.{good_is_coherent}
use Rattle.plat_cmd.proofs.RunLemmas.{same_items}

-- a run breaks no rule
pub made_good : (g : Grain) (m : Machine) (answer : Answer) → IsWithinLimits m →
    Good m answer (history_under g m answer) (ends_under g m answer)
made_good grain.Coarse m answer limits = run_good m answer limits
made_good grain.Fine m answer limits = fine_run-good m answer limits

made_coherent : (g : Grain) (m : Machine) (answer : Answer) → IsWithinLimits m →
    IsCoherentRun m answer (history_under g m answer) (ends_under g m answer)
made_coherent grain.Coarse m answer limits = coarse_run_coherent m answer limits
made_coherent grain.Fine m answer limits =
    good_is_coherent m answer (history_under grain.Fine m answer) (ends_under grain.Fine m answer) (fine_run-good m answer limits)

is_run_of : (g : Grain) (m : Machine) (answer : Answer) (kept : List Item) → IsWithinLimits m → kept ≡ history_under g m answer →
    IsRunOf g m answer kept
is_run_of grain.Coarse m answer kept limits same = record {
  frames = subst (λ (is : List Item). AtEachAccess is (FindsFrameWord m)) (sym same) (run_finds_words m answer limits);
  over = λ q inside. run_not_cut m answer q limits inside;
}
is_run_of grain.Fine m answer kept limits same = fine_run-scheduled m answer limits

-- what was written and kept of items and ends
pub has_shown : {K : Type 0} (g : Grain) (o : Output) (sink : Ghosts K) (m : Machine) (items : List Item) (ends : List Ended) (old new : K)
    (writing : Result (Unit {0}) WriteFault) (now : Status)
    → now ≡ status_after (status_of ends (is_limited g)) writing → Adds sink old new writing (output_of o m items ends)
    → HasShown g o sink m items ends old new now items None
has_shown g o sink m items ends old new writing now now_is adds =
    let complete = status_of ends (is_limited g) in
    record {
      history = refl;
      written = written_by sink old new writing (output_of o m items ends) complete now (no_write_fault ends (is_limited g)) now_is adds;
      ended = ended_by writing complete now now_is;
      no_threads = refl;
    }

-- the items and the ends of a run break no rule
pub shown_good : (g : Grain) (m n : Machine) (answer : Answer) (items : List Item) (ends : List Ended)
    → n ≡ m → IsWithinLimits m → items ≡ history_under g m answer → ends ≡ ends_under g m answer → Good n answer items ends
shown_good g m n answer items ends same limits is_items is_ends =
    subst (λ (i : Machine). Good i answer items ends) (sym same)
    (same_items (λ is es. Good m answer is es) items (history_under g m answer) ends (ends_under g m answer) is_items is_ends
    (made_good g m answer limits))

-- what was written and kept is that of the run
pub has_run : {K : Type 0} (g : Grain) (o : Output) (sink : Ghosts K) (m n : Machine) (answer : Answer) (items : List Item)
    (ends : List Ended) (old new : K) (now : Status) (kept : List Item) (ran : Option ClosedSeen)
    → n ≡ m → IsWithinLimits m → items ≡ history_under g m answer → ends ≡ ends_under g m answer
    → HasShown g o sink n items ends old new now kept ran → HasRun answer g o sink m old new now kept ran
has_run g o sink m n answer items ends old new now kept ran same limits is_items is_ends shown =
    let whole = shown.history ∙ is_items in
    record {
      history = whole;
      coherent = subst (λ (is : List Item). IsCoherentRun m answer is (ends_under g m answer)) (sym whole)
          (made_coherent g m answer limits);
      run = is_run_of g m answer kept limits whole;
      written =
          subst (λ (i : Machine). IsWritten sink old new now (output_of o i kept (ends_under g m answer))) same
          (same_items (λ is es. IsWritten sink old new now (output_of o n is es)) kept items (ends_under g m answer) ends shown.history
          (sym is_ends) shown.written);
      ended = subst (λ (es : List Ended). IsOrWriteFault (status_of es (is_limited g)) now) is_ends shown.ended;
      no_threads = shown.no_threads;
    }
