use Rattle.std.proofs.Common.{sym, subst, rules}
use Rattle.plat_base.specs.Seen.{machine}
use Rattle.plat_proc.specs.Fits.{Fits}
use Rattle.plat_proc.proofs.StepLemmas.{stepped-live, stepped-why}
use Rattle.plat_proc.proofs.TurnLemmas.{may-access}
use Rattle.plat_proc.proofs.procs.Proc.step.Given.{Over}
use Rattle.plat_proc.proofs.procs.Proc.step.Goals.{Joined-self, in-Faulting, in-Loading, in_default}
use Rattle.plat_proc.proofs.procs.Proc.step.Goals as goal

-- after its operation it still fits
fits : (g : Over) (c : Joined-self g) → Fits (machine c.args.cfg.now) c.match-self.self
fits g c =
    let m = machine c.args.cfg.now in
    elim c.match-self.branch [
      | in-Faulting w ↦ subst (Fits m) (sym w.self-is) w.handle.ensures.fits
      | in-Loading w ↦ subst (Fits m) (sym w.self-is) w.access.ensures.fits
      | in_default w ↦ subst (Fits m) (sym w.self-is) w.act.ensures.fits
    ]

pub access-requires-clause-may : goal.access-requires-clause-may
access-requires-clause-may g c =
    may-access (machine c.args.cfg.now) c.args.self.now c.args.cfg.now.limits c.requires.fits (search rules)

pub returns-clause-event : goal.returns-clause-event
returns-clause-event g c =
    elim c.match-self.branch [
      | in-Faulting w ↦ rw (w.self-is, w.port-is) w.handle.ensures.event
      | in-Loading w ↦ rw (w.self-is, w.port-is) w.access.ensures.event
      | in_default w ↦ rw (w.self-is, w.port-is) w.act.ensures.event
    ]

pub returns-clause-why : goal.returns-clause-why
returns-clause-why g c =
    stepped-why (machine c.args.cfg.now) c.match-self.self c.stepped.result c.args.cfg.now.limits
    (fits g (goal.at.returns-clause-why g c).Joined-self) c.stepped.ensures

pub returns-clause-live : goal.returns-clause-live
returns-clause-live g c = λ more.
    stepped-live (machine c.args.cfg.now) c.match-self.self c.stepped.result c.args.cfg.now.limits
    (fits g (goal.at.returns-clause-live g c).Joined-self) c.stepped.ensures more
