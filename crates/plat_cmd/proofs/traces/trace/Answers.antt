use Rattle.std.proofs.Common.{inl}
use Rattle.plat_base.specs.Seen.{machine}
use Rattle.plat_base.specs.Verdicts.{policy_answer}
use Rattle.plat_cmd.specs.declared.words.Output.TheVariants as output
use Rattle.plat_cmd.proofs.RunDoneLemmas.{has_run}
use Rattle.plat_cmd.proofs.traces.trace.Goals as goal

pub returns-in-Ok : goal.returns-in-Ok
returns-in-Ok g c =
    let m = machine c.args.cfg in
    let finished = c.in-Ok.finished in
    let out = c.traced.result in
    inl (has_run c.args.grain output.Trace g.K.Sink m (machine finished.cfg) (policy_answer m.policy) finished.items.items
    finished.ends.items
    c.args.sink.now c.traced.new.sink out.status out.kept.items out.ran
    c.in-Ok.ensures.machine c.args.cfg.limits c.in-Ok.ensures.items c.in-Ok.ensures.ends c.traced.ensures)
