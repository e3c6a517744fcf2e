use Rattle.std.proofs.Common.{refl}
use Rattle.plat_base.specs.Seen.{machine}
use Rattle.plat_events.specs.Kept.{private_of}
use Rattle.plat_shootdown_laws.proofs.ShootingLaws.{keeps_shooting}
use Rattle.plat_shootdown_laws.proofs.shootdowns.any_policy_shoots.Goals as goal

pub returns : goal.returns
returns g c = λ s a shows within shoot.
    keeps_shooting (machine c.args.cfg.now) (g.P.Policy.answer c.args.policy.now) s a c.args.cfg.now.limits shows within
    (private_of (machine c.args.cfg.now) s a).place refl shoot
