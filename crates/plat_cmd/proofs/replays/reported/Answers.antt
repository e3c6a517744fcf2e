use Rattle.std.proofs.Common.{false, refl, ap, sym, ◌∙◌, List}
use Rattle.plat_base.specs.Rules.{Good}
use Rattle.plat_base.specs.Report.{report}
use Rattle.plat_base.specs.Statuses.{status_of}
use Rattle.plat_base.specs.Verdicts.{policy_answer}
use Rattle.plat_base.specs.declared.endings.Ended.{Ended}
use Rattle.plat_base.specs.declared.statuses.Status.{Status}
use Rattle.plat_io.specs.Adds.{Adds}
use Rattle.plat_history.specs.Shown.{seen}
use Rattle.plat_cmd.specs.Steps.{status_after}
use Rattle.plat_cmd.proofs.EndingLemmas.{written_by, ended_by, no_write_fault}
use Rattle.plat_cmd.proofs.GoodLemmas.{good_is_coherent}
use Rattle.plat_cmd.proofs.RunLemmas.{same_items}
use Rattle.plat_cmd.proofs.replays.reported.Goals as goal

pub report-written-requires-clause-good : goal.report-written-requires-clause-good
report-written-requires-clause-good g c =
    let h = seen c.args.judged.history in (
      policy_answer h.machine.policy,
      same_items (λ is es. Good h.machine (policy_answer h.machine.policy) is es) c.as_slice.result.now h.items c.as_slice-2.result.now
          h.ends
          c.as_slice.ensures c.as_slice-2.ensures c.requires.good,
    )

pub returns : goal.returns
returns g c =
    let h = seen c.args.judged.history in
    let complete = status_of h.ends false in
    let now_is =
    c.status_after.ensures
    ∙ ap (λ (s : Status). status_after s c.report-written.result)
    (c.status_of-complete.ensures ∙ ap (λ (es : List Ended). status_of es false) c.as_slice-3.ensures) in
    let written =
    same_items (λ is es. Adds g.K.Sink c.args.sink.now c.report-written.new.sink c.report-written.result (report h.machine is es)) h.items
    c.as_slice.result.now h.ends
    c.as_slice-2.result.now (sym c.as_slice.ensures) (sym c.as_slice-2.ensures) c.report-written.ensures in
    record {
      history = refl;
      no_threads = refl;
      coherent = good_is_coherent h.machine (policy_answer h.machine.policy) h.items h.ends c.requires.good;
      written =
          written_by g.K.Sink c.args.sink.now c.report-written.new.sink c.report-written.result (report h.machine h.items h.ends) complete
          c.status_after.result
          (no_write_fault h.ends false) now_is written;
      ended = ended_by c.report-written.result complete c.status_after.result now_is;
    }
