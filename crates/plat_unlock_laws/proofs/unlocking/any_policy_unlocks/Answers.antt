use Rattle.std.proofs.Common.{refl}
use Rattle.plat_base.specs.Seen.{machine}
use Rattle.plat_events.specs.Kept.{private_of}
use Rattle.plat_unlock_laws.proofs.UnlockingLaws.{keeps_unlocking}
use Rattle.plat_unlock_laws.proofs.unlocking.any_policy_unlocks.Goals as goal

pub returns : goal.returns
returns g c = λ s a shows within unlocks.
    keeps_unlocking (machine c.args.cfg.now) (g.P.Policy.answer c.args.policy.now) s a c.args.cfg.now.limits shows within
    (private_of (machine c.args.cfg.now) s a).place refl unlocks
