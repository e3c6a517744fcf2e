use Rattle.plat_base.specs.Seen.{machine}
use Rattle.plat_frame_laws.proofs.HandlingLaws.{keeps_handling}
use Rattle.plat_frame_laws.proofs.handling.any_policy_frames.Goals as goal

pub returns : goal.returns
returns g c = λ s a shows within handles.
    keeps_handling (machine c.args.cfg.now) (g.P.Policy.answer c.args.policy.now) s a c.args.cfg.now.limits shows within handles
