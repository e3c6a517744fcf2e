use Rattle.std.proofs.Common.{sym, subst}
use Rattle.plat_base.specs.Seen.{machine}
use Rattle.plat_cmd.specs.Inputs.{machine_text}
use Rattle.plat_cmd.specs.Trials.{PromisesUnder}
use Rattle.plat_cmd.specs.declared.words.Output.{Output}
use Rattle.plat_cmd.specs.declared.words.Output.TheVariants as output
use Rattle.plat_cmd.proofs.PromiseLemmas.{HasReadAll}
use Rattle.plat_cmd.proofs.ToldLemmas.{machine_read, no_machine, ends_so}
use Rattle.plat_cmd.proofs.TrialLemmas.{did_or_not_under, stopped_under}
use Rattle.plat_cmd.proofs.trials.sim_under.Given.{Over}
use Rattle.plat_cmd.proofs.trials.sim_under.Goals.{In-Ok}
use Rattle.plat_cmd.proofs.trials.sim_under.Goals as goal

-- what was read
told : (g : Over) (c : In-Ok g) → HasReadAll machine_text g.S.Source c.args.source.now c.read_machine.new.source (machine c.in-Ok.cfg)
told g c =
    let read = c.read_machine.ensures in
    machine_read g.S.Source c.args.source.now c.read_machine.new.source c.read_machine.result c.in-Ok.cfg c.in-Ok.is read.found read.exact
    read.all read.count read.only read.taken

pub returns-in-Report : goal.returns-in-Report
returns-in-Report g c =
    let answer = g.P.Policy.answer c.args.policy in
    subst
    (λ (o : Output). PromisesUnder answer o g.S.Source g.K.Sink c.args.source.now c.read_machine.new.source
    c.args.sink.now c.simulate_under.new.sink c.simulate_under.result) (sym c.in-Report.is)
    (did_or_not_under answer output.Report g.S.Source g.K.Sink c.args.source.now c.read_machine.new.source
    c.args.sink.now c.simulate_under.new.sink c.simulate_under.result (machine c.in-Ok.cfg)
    (told g (goal.at.returns-in-Report g c).In-Ok) c.simulate_under.ensures)

pub returns-in-Trace : goal.returns-in-Trace
returns-in-Trace g c =
    let answer = g.P.Policy.answer c.args.policy in
    subst
    (λ (o : Output). PromisesUnder answer o g.S.Source g.K.Sink c.args.source.now c.read_machine.new.source
    c.args.sink.now c.trace_under.new.sink c.trace_under.result) (sym c.in-Trace.is)
    (did_or_not_under answer output.Trace g.S.Source g.K.Sink c.args.source.now c.read_machine.new.source
    c.args.sink.now c.trace_under.new.sink c.trace_under.result (machine c.in-Ok.cfg)
    (told g (goal.at.returns-in-Trace g c).In-Ok) c.trace_under.ensures)

pub returns-in-Err : goal.returns-in-Err
returns-in-Err g c =
    stopped_under (g.P.Policy.answer c.args.policy) c.args.output g.S.Source g.K.Sink c.args.source.now c.read_machine.new.source
    c.args.sink.now c.args.sink.now c.without_run.result c.in-Err.stop
    (no_machine g.S.Source c.args.source.now c.read_machine.new.source c.read_machine.result c.in-Err.stop c.in-Err.is
    c.read_machine.ensures.stopped c.read_machine.ensures.count c.read_machine.ensures.only c.read_machine.ensures.taken)
    (ends_so c.args.sink.now c.in-Err.stop c.stop_status.result c.without_run.result c.without_run.ensures.status c.stop_status.ensures
    c.without_run.ensures.kept c.without_run.ensures.ran)
