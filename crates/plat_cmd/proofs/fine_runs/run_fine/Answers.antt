use Rattle.std.proofs.Common.{ap, ◌∙◌}
use Rattle.plat_base.specs.Machine.{Machine}
use Rattle.plat_base.specs.Seen.{machine}
use Rattle.plat_events.specs.Runs.{Fine, ends_of}
use Rattle.plat_cmd.specs.Steps.{standing_fine}
use Rattle.plat_cmd.proofs.FineRunLemmas.{made_is}
use Rattle.plat_cmd.proofs.fine_runs.run_fine.Goals as goal

pub returns-clause-machine : goal.returns-clause-machine
returns-clause-machine c = c.finish.ensures.machine ∙ (c.make_events.ensures.machine ∙ c.in_ok-fine.ensures.machine)

pub returns-clause-items : goal.returns-clause-items
returns-clause-items c =
    c.finish.ensures.items
    ∙ ap (λ (s : Fine). s.history)
    (made_is (machine c.args.cfg) c.in_ok-fine.fine.machine (standing_fine c.make_events.new.fine c.make_events.new.schedule)
    c.most_events-events.result c.in_ok-fine.ensures.machine c.most_events-events.ensures c.make_events.ensures.events)

pub returns-clause-ends : goal.returns-clause-ends
returns-clause-ends c =
    c.finish.ensures.ends
    ∙ (ap (λ (m : Machine). ends_of m c.make_events.new.fine.fine.privates) (c.make_events.ensures.machine ∙ c.in_ok-fine.ensures.machine)
    ∙ ap (λ (s : Fine). ends_of (machine c.args.cfg) s.privates)
    (made_is (machine c.args.cfg) c.in_ok-fine.fine.machine (standing_fine c.make_events.new.fine c.make_events.new.schedule)
    c.most_events-events.result c.in_ok-fine.ensures.machine c.most_events-events.ensures c.make_events.ensures.events))
