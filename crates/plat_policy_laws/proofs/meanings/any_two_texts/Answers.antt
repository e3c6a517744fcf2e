use Rattle.plat_base.specs.Seen.{machine}
use Rattle.plat_policy_laws.proofs.PolicyLaws.{texts-same, enough_texts-same}
use Rattle.plat_policy_laws.proofs.meanings.any_two_texts.Goals as goal

pub returns-clause-same : goal.returns-clause-same
returns-clause-same g c = λ differ enough.
    enough_texts-same (machine c.args.cfg.now) (machine c.args.other_cfg.now) (g.P.Policy.answer c.args.policy.now)
    (g.Q.Policy.answer c.args.other.now) differ c.args.cfg.now.limits c.args.other_cfg.now.limits enough

pub returns-clause-scarce : goal.returns-clause-scarce
returns-clause-scarce g c = λ differ fed other_fed.
    texts-same (machine c.args.cfg.now) (machine c.args.other_cfg.now) (g.P.Policy.answer c.args.policy.now)
    (g.Q.Policy.answer c.args.other.now) differ fed other_fed
