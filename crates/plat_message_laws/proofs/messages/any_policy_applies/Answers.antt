use Rattle.plat_base.specs.Seen.{machine}
use Rattle.plat_message_laws.proofs.ApplyLaws.{keeps_apply}
use Rattle.plat_message_laws.proofs.messages.any_policy_applies.Goals as goal

pub returns : goal.returns
returns g c = λ i message moment onward s a shows within stands.
    keeps_apply (machine c.args.cfg.now) (g.P.Policy.answer c.args.policy.now) s a i message moment onward c.args.cfg.now.limits shows
    within stands
