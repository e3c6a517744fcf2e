use Rattle.std.proofs.Common.{refl}
use Rattle.plat_base.specs.Seen.{machine}
use Rattle.plat_events.specs.Kept.{private_of}
use Rattle.plat_session_laws.proofs.HandlingLaws.{keeps_page}
use Rattle.plat_session_laws.proofs.handling.any_policy_sessions.Goals as goal

pub returns : goal.returns
returns g c = λ s a shows within handles.
    keeps_page (machine c.args.cfg.now) (g.P.Policy.answer c.args.policy.now) s a c.args.cfg.now.limits shows within
    (private_of (machine c.args.cfg.now) s a).place refl handles
