use Rattle.std.proofs.Common.{ap, arith}
use Rattle.plat_base.specs.Seen.{machine}
use Rattle.plat_proc.specs.ProcSeen.{ProcSeen}
use Rattle.plat_proc.proofs.TurnLemmas.{space-below}
use Rattle.plat_proc.proofs.procs.Proc.poll.Goals as goal

pub polled-requires : goal.polled-requires
polled-requires c =
    let same = ap (λ (y : ProcSeen). y.state.guest.space) c.self.view_is in
    omega (arith, same, c.space-space.ensures, space-below (machine c.args.cfg.now) c.args.self.now c.args.cfg.now.limits c.requires.fits)
