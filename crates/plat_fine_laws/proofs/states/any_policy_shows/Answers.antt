use Rattle.std.proofs.Common.{refl}
use Rattle.plat_base.specs.Seen.{machine}
use Rattle.plat_events.specs.Kept.{private_of}
use Rattle.plat_fine_laws.proofs.AloneLaws.{alone_ok}
use Rattle.plat_fine_laws.proofs.OutsideLaws.{keeps_outside}
use Rattle.plat_fine_laws.proofs.StartLaws.{shows-start}
use Rattle.plat_fine_laws.proofs.ViewFactLaws.{view_facts}
use Rattle.plat_fine_laws.proofs.states.any_policy_shows.Goals as goal

pub returns-clause-start : goal.returns-clause-start
returns-clause-start g c = shows-start (machine c.args.cfg.now) (g.P.Policy.answer c.args.policy.now) c.args.cfg.now.limits

pub returns-clause-facts : goal.returns-clause-facts
returns-clause-facts g c = λ s q e shows inside below.
    view_facts (machine c.args.cfg.now) (g.P.Policy.answer c.args.policy.now) s c.args.cfg.now.limits shows
    (λ a within. alone_ok (machine c.args.cfg.now) (g.P.Policy.answer c.args.policy.now) s a c.args.cfg.now.limits shows within)
    q e inside below

pub returns-clause-kept : goal.returns-clause-kept
returns-clause-kept g c = λ s a shows within outside.
    keeps_outside (machine c.args.cfg.now) (g.P.Policy.answer c.args.policy.now) s a c.args.cfg.now.limits shows within
    (private_of (machine c.args.cfg.now) s a).place refl outside
