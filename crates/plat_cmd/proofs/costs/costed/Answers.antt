use Rattle.std.proofs.Common.{sym, subst, ◌∙◌, List}
use Rattle.plat_base.specs.Verdicts.{policy_answer}
use Rattle.plat_base.specs.declared.items.Item.{Item}
use Rattle.plat_base.specs.declared.statuses.Status.TheVariants as status
use Rattle.plat_cost.specs.CostLines.{cost_text}
use Rattle.plat_cost.specs.Costs.{CanPlace}
use Rattle.plat_cost_laws.proofs.PlaceLaws.{can_place}
use Rattle.plat_history.specs.Shown.{seen}
use Rattle.plat_io.specs.Adds.{Adds}
use Rattle.plat_cmd.proofs.EndingLemmas.{written_by, ended_by}
use Rattle.plat_cmd.proofs.GoodLemmas.{good_is_coherent}
use Rattle.plat_cmd.proofs.costs.costed.Goals as goal

pub print_costs-written-requires-clause-places : goal.print_costs-written-requires-clause-places
print_costs-written-requires-clause-places g c =
    let h = seen c.args.judged.history in
    subst (λ (items : List Item). CanPlace h.machine items) (sym c.as_slice.ensures)
    (can_place h.machine (policy_answer h.machine.policy) h.items h.ends c.requires.good)

pub returns : goal.returns
returns g c =
    let h = seen c.args.judged.history in
    let old = c.args.sink.now in
    let new = c.print_costs-written.new.sink in
    let written = c.print_costs-written.result in
    let now_is = c.without_run.ensures.status ∙ c.status_after.ensures in
    record {
      coherent = good_is_coherent h.machine (policy_answer h.machine.policy) h.items h.ends c.requires.good;
      written =
          written_by g.K.Sink old new written (cost_text h.machine h.items) status.Done c.without_run.result.status (λ fault. cc) now_is
          (subst (λ (items : List Item). Adds g.K.Sink old new written (cost_text h.machine items)) c.as_slice.ensures
          c.print_costs-written.ensures.written);
      ended = ended_by written status.Done c.without_run.result.status now_is;
      history = c.without_run.ensures.kept;
      no_threads = c.without_run.ensures.ran;
    }
