use Rattle.std.proofs.Common.{Some, refl, ap, sym, ◌∙◌, List, false}
use Rattle.plat_base.specs.Machine.{Machine}
use Rattle.plat_base.specs.Rules.{Good}
use Rattle.plat_base.specs.Seen.{machine}
use Rattle.plat_base.specs.Statuses.{status_of}
use Rattle.plat_base.specs.Verdicts.{policy_answer}
use Rattle.plat_base.specs.declared.endings.Ended.{Ended}
use Rattle.plat_base.specs.declared.items.Item.{Item}
use Rattle.plat_base.specs.declared.statuses.Status.{Status}
use Rattle.plat_io.specs.Adds.{Adds}
use Rattle.plat_cmd.specs.Steps.{status_after}
use Rattle.plat_cmd.specs.Works.{output_of}
use Rattle.plat_cmd.specs.declared.words.Output.TheVariants as output
use Rattle.plat_cmd.proofs.ThreadRunLemmas.{same_run, has_threaded}
use Rattle.plat_cmd.proofs.thread_runs.reported.Goals as goal

pub report-written-requires-clause-good : goal.report-written-requires-clause-good
report-written-requires-clause-good g c =
    let x = c.args.threaded.closed in
    let answer = policy_answer x.machine.policy in (
      answer,
      same_run (λ (m : Machine) (is : List Item) (es : List Ended). Good m answer is es) (machine c.cfg.result.now) x.machine
          c.as_slice.result.now c.args.threaded.items.items c.ends.result.now x.ends (sym c.cfg.ensures.machine) (sym c.as_slice.ensures)
          (sym c.ends.ensures.ends) c.requires.run.coherent.good,
    )

pub returns : goal.returns
returns g c =
    let x = c.args.threaded.closed in
    let items = c.args.threaded.items.items in
    let old = c.args.sink.now in
    let new = c.report-written.new.sink in
    let writing = c.report-written.result in
    has_threaded output.Report g.K.Sink x.machine x old new writing c.status_after.result items (Some x) refl c.requires.run
    (c.status_after.ensures
    ∙ ap (λ (s : Status). status_after s writing)
    (c.status_of-complete.ensures ∙ ap (λ (es : List Ended). status_of es false) c.ends-2.ensures.ends))
    (same_run (λ (m : Machine) (is : List Item) (es : List Ended). Adds g.K.Sink old new writing (output_of output.Report m is es))
    x.machine (machine c.cfg.result.now)
    items c.as_slice.result.now x.ends c.ends.result.now c.cfg.ensures.machine
    c.as_slice.ensures c.ends.ensures.ends c.report-written.ensures)
