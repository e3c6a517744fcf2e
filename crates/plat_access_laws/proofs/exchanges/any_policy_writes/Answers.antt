use Rattle.plat_base.specs.Seen.{machine}
use Rattle.plat_access_laws.proofs.ExchangeLaws.{keeps_exchange}
use Rattle.plat_access_laws.proofs.exchanges.any_policy_writes.Goals as goal

pub returns : goal.returns
returns g c = λ seen s a shows within stands.
    keeps_exchange (machine c.args.cfg.now) (g.P.Policy.answer c.args.policy.now) s a seen c.args.cfg.now.limits shows within stands
