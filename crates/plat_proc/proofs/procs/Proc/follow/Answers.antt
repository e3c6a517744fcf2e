use Rattle.std.proofs.Common.{refl}
use Rattle.plat_base.specs.Seen.{machine}
use Rattle.plat_events.specs.Privates.{Switching}
use Rattle.plat_proc.specs.Places.{onward_seen}
use Rattle.plat_proc.proofs.TurnLemmas.{place-here, room-applied, room-here}
use Rattle.plat_proc.proofs.procs.Proc.follow.Goals as goal

pub apply-requires-clause-room : goal.apply-requires-clause-room
apply-requires-clause-room c =
    let s = c.self.inside in
    let a = c.in-Applying in
    let at = place-here c.self.inside c.args.self.now _ c.self.view_is a.is in
    room-applied (machine c.args.cfg.now) c.args.self.now c.args.found a.i a.message a.moment (onward_seen s.handler a.onward)
    c.args.cfg.now.limits c.requires.fits c.requires.followed at

pub switch-requires-clause-room : goal.switch-requires-clause-room
switch-requires-clause-room c =
    let at = place-here c.self.inside c.args.self.now _ c.self.view_is c.in-Switching.is in
    room-here (machine c.args.cfg.now) c.args.self.now c.args.found (Switching c.in-Switching.space) _ c.args.cfg.now.limits
    c.requires.fits c.requires.followed at refl
