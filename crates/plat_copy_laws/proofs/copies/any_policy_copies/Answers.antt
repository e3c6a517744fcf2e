use Rattle.plat_base.specs.Seen.{machine}
use Rattle.plat_copy_laws.proofs.CopyLaws.{run-current, run-apart, run-passed, run-clear}
use Rattle.plat_copy_laws.proofs.copies.any_policy_copies.Goals as goal

pub returns-clause-current : goal.returns-clause-current
returns-clause-current g c = λ who live.
    run-current (machine c.args.cfg.now) (g.P.Policy.answer c.args.policy.now) c.args.cfg.now.limits who live

pub returns-clause-apart : goal.returns-clause-apart
returns-clause-apart g c = λ who live.
    run-apart (machine c.args.cfg.now) (g.P.Policy.answer c.args.policy.now) c.args.cfg.now.limits who live

pub returns-clause-passed : goal.returns-clause-passed
returns-clause-passed g c = λ who live.
    run-passed (machine c.args.cfg.now) (g.P.Policy.answer c.args.policy.now) c.args.cfg.now.limits who live

pub returns-clause-initiator : goal.returns-clause-initiator
returns-clause-initiator g c = λ who live.
    run-clear (machine c.args.cfg.now) (g.P.Policy.answer c.args.policy.now) c.args.cfg.now.limits who live
