use Rattle.std.proofs.Common.{inl}
use Rattle.plat_base.specs.Seen.{machine}
use Rattle.plat_cmd.specs.declared.words.Grain.TheVariants as grain
use Rattle.plat_cmd.specs.declared.words.Output.TheVariants as output
use Rattle.plat_cmd.proofs.RunDoneLemmas.{has_run, shown_good}
use Rattle.plat_cmd.proofs.trials.simulate_under.Goals as goal

pub reported-requires-clause-good : goal.reported-requires-clause-good
reported-requires-clause-good g c =
    let m = machine c.args.cfg in
    let answer = g.P.Policy.answer c.args.policy in
    let finished = c.in-Ok.made.finished in (
      answer,
      shown_good grain.Coarse m (machine finished.cfg) answer finished.items.items finished.ends.items
          c.in-Ok.ensures.machine c.args.cfg.limits c.in-Ok.ensures.items c.in-Ok.ensures.ends,
    )

pub returns-in-Ok : goal.returns-in-Ok
returns-in-Ok g c =
    let m = machine c.args.cfg in
    let finished = c.in-Ok.made.finished in
    let out = c.reported.result in
    inl (has_run grain.Coarse output.Report g.K.Sink m (machine finished.cfg) (g.P.Policy.answer c.args.policy) finished.items.items
    finished.ends.items
    c.args.sink.now c.reported.new.sink out.status out.kept.items out.ran
    c.in-Ok.ensures.machine c.args.cfg.limits c.in-Ok.ensures.items c.in-Ok.ensures.ends c.reported.ensures)
