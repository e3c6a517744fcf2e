use Rattle.plat_base.specs.Seen.{machine}
use Rattle.plat_policy_laws.proofs.PolicyLaws.{run-flat, runs-same, enough-same, between-same}
use Rattle.plat_policy_laws.proofs.meanings.any_two_policies.Goals as goal

pub returns-clause-same : goal.returns-clause-same
returns-clause-same g c = λ enough.
    enough-same (machine c.args.cfg.now) (g.P.Policy.answer c.args.policy.now) (g.Q.Policy.answer c.args.other.now)
    c.args.cfg.now.limits enough

pub returns-clause-between : goal.returns-clause-between
returns-clause-between g c = λ enough turns.
    between-same (machine c.args.cfg.now) (g.P.Policy.answer c.args.policy.now) (g.Q.Policy.answer c.args.other.now)
    c.args.cfg.now.limits enough turns

pub returns-clause-scarce : goal.returns-clause-scarce
returns-clause-scarce g c = λ fed other_fed.
    runs-same (machine c.args.cfg.now) (g.P.Policy.answer c.args.policy.now) (g.Q.Policy.answer c.args.other.now) fed other_fed

pub returns-clause-flat : goal.returns-clause-flat
returns-clause-flat g c = λ fed. run-flat (machine c.args.cfg.now) (g.P.Policy.answer c.args.policy.now) fed
