use Rattle.std.proofs.Common.{ap, ◌∙◌}
use Rattle.plat_base.specs.Coarse.{Coarse}
use Rattle.plat_base.specs.Seen.{machine}
use Rattle.plat_cmd.proofs.RunLemmas.{made_is}
use Rattle.plat_cmd.proofs.coarse_runs.run_coarse_under.Goals as goal

pub returns-clause-items : goal.returns-clause-items
returns-clause-items g c =
    let answer = g.P.Policy.answer in
    c.finish.ensures.items
    ∙ ap (λ (s : Coarse). s.history)
    (made_is (machine c.args.cfg) c.in_ok-coarse.coarse.machine (answer c.args.policy) (answer c.in_ok-coarse.coarse.policy)
    (record { coarse = c.make_turns.new.coarse.run; chooser = c.make_turns.new.schedule.chooser })
    c.most_turns-turns.result c.in_ok-coarse.ensures.machine (ap answer c.in_ok-coarse.ensures.policy)
    c.most_turns-turns.ensures.value c.make_turns.ensures.turns)

pub returns-clause-ends : goal.returns-clause-ends
returns-clause-ends g c =
    let answer = g.P.Policy.answer in
    c.finish.ensures.ends
    ∙ ap (λ (s : Coarse). s.ends)
    (made_is (machine c.args.cfg) c.in_ok-coarse.coarse.machine (answer c.args.policy) (answer c.in_ok-coarse.coarse.policy)
    (record { coarse = c.make_turns.new.coarse.run; chooser = c.make_turns.new.schedule.chooser })
    c.most_turns-turns.result c.in_ok-coarse.ensures.machine (ap answer c.in_ok-coarse.ensures.policy)
    c.most_turns-turns.ensures.value c.make_turns.ensures.turns)
