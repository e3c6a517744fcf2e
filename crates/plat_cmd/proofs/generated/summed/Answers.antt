use Rattle.std.proofs.Common.{◌≡◌, refl, sym, subst, ◌∙◌, List}
use Rattle.std.specs.Prelude.{replicate}
use Rattle.plat_base.specs.Machine.{Machine}
use Rattle.plat_gen.specs.Generated.{generated}
use Rattle.plat_gen_laws.specs.Halts.{halted_in}
use Rattle.plat_gen_laws.proofs.GeneratedLaws.{generated_ends}
use Rattle.plat_base.specs.Coherent.{FindsFrameWord}
use Rattle.plat_base.specs.Histories.{AtEachAccess}
use Rattle.plat_base.specs.Rules.{Good}
use Rattle.plat_base.specs.Runs.{IsCoherentRun}
use Rattle.plat_base.specs.Report.{summary}
use Rattle.plat_base.specs.Seen.{machine}
use Rattle.plat_base.specs.Verdicts.{policy_answer}
use Rattle.plat_base.specs.declared.items.Item.{Item}
use Rattle.plat_base.specs.declared.statuses.Status.TheVariants as status
use Rattle.plat_io.specs.Adds.{Adds}
use Rattle.plat_coarse_laws.proofs.CoherentLaws.{run_finds_words}
use Rattle.plat_coarse_laws.proofs.CoarseRunLaws.{coarse_run_coherent}
use Rattle.plat_coarse_laws.proofs.TurnLaws.{run_good}
use Rattle.plat_cmd.specs.Works.{history_of, ends_of, IsWritten}
use Rattle.plat_cmd.specs.declared.words.Grain.TheVariants as grain
use Rattle.plat_cmd.proofs.EndingLemmas.{written_by, ended_by}
use Rattle.plat_cmd.proofs.RunLemmas.{same_items}
use Rattle.plat_cmd.proofs.generated.summed.Goals as goal

pub summary-written-requires-clause-good : goal.summary-written-requires-clause-good
summary-written-requires-clause-good g c =
    let m = machine c.args.made.finished.cfg in (
      policy_answer m.policy,
      same_items (λ is es. Good m (policy_answer m.policy) is es) c.as_slice.result.now (history_of grain.Coarse m) c.as_slice-2.result.now
          (ends_of grain.Coarse m)
          (c.as_slice.ensures ∙ c.requires.items) (c.as_slice-2.ensures ∙ c.requires.ends)
          (run_good m (policy_answer m.policy) c.args.made.finished.cfg.limits),
    )

pub returns : goal.returns
returns g c =
    let m = machine c.args.made.finished.cfg in
    let n = c.args.n in
    let limits = c.args.made.finished.cfg.limits in
    let kept = c.requires.items in
    let old = c.args.sink.now in
    let new = c.summary-written.new.sink in
    let now = c.status_after.result in
    let answer = policy_answer m.policy in
    let written =
    same_items (λ is es. Adds g.K.Sink old new c.summary-written.result (summary n m is es)) (history_of grain.Coarse m)
    c.as_slice.result.now (ends_of grain.Coarse m)
    c.as_slice-2.result.now (sym (c.as_slice.ensures ∙ c.requires.items)) (sym (c.as_slice-2.ensures ∙ c.requires.ends))
    c.summary-written.ensures
    in record {
      history = kept;
      no_threads = refl;
      coherent = subst (λ (is : List Item). IsCoherentRun m answer is (ends_of grain.Coarse m)) (sym kept)
          (coarse_run_coherent m answer limits);
      frames = subst (λ (is : List Item). AtEachAccess is (FindsFrameWord m)) (sym kept) (run_finds_words m answer limits);
      halted =
          subst (λ (x : Machine). ends_of grain.Coarse x ≡ replicate 8 (halted_in 40008)) (sym c.requires.number)
          (generated_ends n (policy_answer (generated n).policy));
      written =
          subst (λ (is : List Item). IsWritten g.K.Sink old new now (summary n m is (ends_of grain.Coarse m))) (sym kept)
          (written_by g.K.Sink old new c.summary-written.result (summary n m (history_of grain.Coarse m) (ends_of grain.Coarse m))
          status.Done now (λ is. cc)
          c.status_after.ensures written);
      ended = ended_by c.summary-written.result status.Done now c.status_after.ensures;
    }
