use Rattle.std.proofs.Common.{sym, subst, refl, ◌≡◌}
use Rattle.std.specs.Prelude.{Some}
use Rattle.plat_base.specs.Seen.{machine}
use Rattle.plat_daemon.specs.DaemonSeen.{DaemonSeen}
use Rattle.plat_daemon.specs.Fits.{Fits, next_at}
use Rattle.plat_daemon.proofs.DaemonLemmas.{at_page, next_at-asked, next_at-within}
use Rattle.plat_daemon.proofs.daemons.Daemon.asked.Goals as goal

pub returns-clause-next : goal.returns-clause-next
returns-clause-next c =
    let m = machine c.args.cfg.now in let it = c.self.inside in
    let fits = subst (Fits m) (sym c.self.view_is) c.requires.fits in
    let at = at_page m _ c.in-Some.handler it.handler it.place c.in-Some.is refl refl c.self.invariant fits in
    subst (λ (x : DaemonSeen). next_at m x ≡ Some (c.in-Word.at, c.in-Word.op)) c.self.view_is
    (next_at-asked m _ c.in-Some.handler c.in-Word.at c.in-Word.op at.1 c.in-Word.ensures)

pub returns-clause-within : goal.returns-clause-within
returns-clause-within c =
    next_at-within (machine c.args.cfg.now) c.args.self.now (c.in-Word.at, c.in-Word.op) c.args.cfg.now.limits c.requires.fits
    (returns-clause-next c)
