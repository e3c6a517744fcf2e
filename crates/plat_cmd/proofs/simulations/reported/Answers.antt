use Rattle.std.proofs.Common.{ap, sym, ◌∙◌, List}
use Rattle.plat_base.specs.Rules.{Good}
use Rattle.plat_base.specs.Report.{report}
use Rattle.plat_base.specs.Statuses.{status_of}
use Rattle.plat_base.specs.Seen.{machine}
use Rattle.plat_base.specs.declared.endings.Ended.{Ended}
use Rattle.plat_base.specs.declared.statuses.Status.{Status}
use Rattle.plat_io.specs.Adds.{Adds}
use Rattle.plat_cmd.specs.Steps.{status_after}
use Rattle.plat_cmd.specs.declared.words.Output.TheVariants as output
use Rattle.plat_cmd.proofs.RunDoneLemmas.{has_shown}
use Rattle.plat_cmd.proofs.RunLemmas.{same_items}
use Rattle.plat_cmd.proofs.simulations.reported.Goals as goal

pub report-written-requires-clause-good : goal.report-written-requires-clause-good
report-written-requires-clause-good g c =
    let m = machine c.args.made.finished.cfg in (
      c.requires.good.0,
      same_items (λ is es. Good m c.requires.good.0 is es) c.as_slice.result.now c.args.made.finished.items.items c.as_slice-2.result.now
          c.args.made.finished.ends.items
          c.as_slice.ensures c.as_slice-2.ensures c.requires.good.1,
    )

pub returns : goal.returns
returns g c =
    let m = machine c.args.made.finished.cfg in
    let items = c.args.made.finished.items.items in
    let ends = c.args.made.finished.ends.items in
    let now_is =
    c.status_after.ensures
    ∙ ap (λ (s : Status). status_after s c.report-written.result)
    (c.status_of-complete.ensures
    ∙ (ap (λ (es : List Ended). status_of es c.is_limited.result) c.as_slice-3.ensures ∙ ap (status_of ends) c.is_limited.ensures)) in
    has_shown c.args.grain output.Report g.K.Sink m items ends c.args.sink.now c.report-written.new.sink c.report-written.result
    c.status_after.result now_is
    (same_items (λ is es. Adds g.K.Sink c.args.sink.now c.report-written.new.sink c.report-written.result (report m is es)) items
    c.as_slice.result.now ends c.as_slice-2.result.now
    (sym c.as_slice.ensures) (sym c.as_slice-2.ensures) c.report-written.ensures)
