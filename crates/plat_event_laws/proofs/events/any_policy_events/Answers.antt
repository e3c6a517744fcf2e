use Rattle.std.proofs.Common.{refl}
use Rattle.plat_base.specs.Seen.{machine}
use Rattle.plat_events.specs.Kept.{private_of}
use Rattle.plat_event_laws.proofs.EventLaws.{keeps_event}
use Rattle.plat_event_laws.proofs.RunLaws.{run-shows, run-good}
use Rattle.plat_event_laws.proofs.ScheduledLaws.{run-enough, fine_run-scheduled, fine_run-good}
use Rattle.plat_event_laws.proofs.events.any_policy_events.Goals as goal

pub returns-clause-event : goal.returns-clause-event
returns-clause-event g c = λ s a shows within.
    keeps_event (machine c.args.cfg.now) (g.P.Policy.answer c.args.policy.now) s a c.args.cfg.now.limits shows within
    (private_of (machine c.args.cfg.now) s a).place refl

pub returns-clause-run : goal.returns-clause-run
returns-clause-run g c = λ who live.
    run-shows (machine c.args.cfg.now) (g.P.Policy.answer c.args.policy.now) c.args.cfg.now.limits who live

pub returns-clause-good : goal.returns-clause-good
returns-clause-good g c = λ who live.
    run-good (machine c.args.cfg.now) (g.P.Policy.answer c.args.policy.now) c.args.cfg.now.limits who live

pub returns-clause-enough : goal.returns-clause-enough
returns-clause-enough g c = λ enough who live.
    run-enough (machine c.args.cfg.now) (g.P.Policy.answer c.args.policy.now) c.args.cfg.now.limits enough who live

pub returns-clause-scheduled : goal.returns-clause-scheduled
returns-clause-scheduled g c =
    fine_run-scheduled (machine c.args.cfg.now) (g.P.Policy.answer c.args.policy.now) c.args.cfg.now.limits

pub returns-clause-good_scheduled : goal.returns-clause-good_scheduled
returns-clause-good_scheduled g c =
    fine_run-good (machine c.args.cfg.now) (g.P.Policy.answer c.args.policy.now) c.args.cfg.now.limits
