use Rattle.std.proofs.Common.{ℕ, ◌*◌, ◌≤◌, sym, subst, arith}
use Rattle.plat_base.specs.Seen.{machine}
use Rattle.plat_daemon.specs.DaemonSeen.{DaemonSeen}
use Rattle.plat_daemon.proofs.DaemonLemmas.{due-most, period-limits}
use Rattle.plat_local_laws.proofs.WordLaws.{turns-few}
use Rattle.plat_daemon.proofs.daemons.Daemon.page_done.Goals as goal

pub overflow_mul-self : goal.overflow_mul-self
overflow_mul-self c =
    let m = machine c.args.cfg.now in
    let now : c.self.inside.tick ≤ m.nodes * m.budget =
    subst (λ (x : DaemonSeen). x.now ≤ m.nodes * m.budget) (sym c.self.view_is) c.requires.now in
    let period = c.period-period in
    let short : period.result ≤ 1000000 =
    subst (λ (t : ℕ). t ≤ 1000000) (sym period.ensures) (period-limits m c.args.cfg.now.limits c.requires.there).1 in
    let due = due-most c.self.inside.tick period.result (omega (arith, now, turns-few m c.args.cfg.now.limits)) short in
    omega (arith, due)
