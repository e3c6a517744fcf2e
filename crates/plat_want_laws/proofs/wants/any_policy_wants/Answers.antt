use Rattle.plat_base.specs.Seen.{machine}
use Rattle.plat_want_laws.proofs.WantLaws.{run-goes, run-ends}
use Rattle.plat_want_laws.proofs.wants.any_policy_wants.Goals as goal

pub returns-clause-goes : goal.returns-clause-goes
returns-clause-goes g c = λ who q node goes.
    run-goes (machine c.args.cfg.now) (g.P.Policy.answer c.args.policy.now) q who node goes

pub returns-clause-ends : goal.returns-clause-ends
returns-clause-ends g c = λ who q e node stands starved.
    run-ends (machine c.args.cfg.now) (g.P.Policy.answer c.args.policy.now) q who e node stands starved
