use Rattle.std.proofs.Common.{ap, sym, ◌∙◌, List}
use Rattle.plat_base.specs.Seen.{machine}
use Rattle.plat_base.specs.Statuses.{status_of}
use Rattle.plat_base.specs.declared.endings.Ended.{Ended}
use Rattle.plat_base.specs.declared.statuses.Status.{Status}
use Rattle.plat_io.specs.Adds.{Adds}
use Rattle.plat_cmd.specs.Works.{output_of}
use Rattle.plat_cmd.specs.Steps.{status_after}
use Rattle.plat_cmd.specs.declared.words.Output.TheVariants as output
use Rattle.plat_cmd.proofs.RunDoneLemmas.{has_shown}
use Rattle.plat_cmd.proofs.RunLemmas.{same_items}
use Rattle.plat_cmd.proofs.traces.traced.Goals as goal

pub returns : goal.returns
returns g c =
    let m = machine c.args.finished.cfg in
    let items = c.args.finished.items.items in
    let ends = c.args.finished.ends.items in
    let now_is =
    c.status_after.ensures
    ∙ ap (λ (s : Status). status_after s c.print_items-written.result)
    (c.status_of-complete.ensures
    ∙ (ap (λ (es : List Ended). status_of es c.is_limited.result) c.as_slice-3.ensures ∙ ap (status_of ends) c.is_limited.ensures)) in
    has_shown c.args.grain output.Trace g.K.Sink m items ends c.args.sink.now c.print_items-written.new.sink c.print_items-written.result
    c.status_after.result now_is
    (same_items (λ is es. Adds g.K.Sink c.args.sink.now c.print_items-written.new.sink c.print_items-written.result
    (output_of output.Trace m is es)) items c.as_slice.result.now ends c.as_slice-2.result.now
    (sym c.as_slice.ensures) (sym c.as_slice-2.ensures) c.print_items-written.ensures.written)
