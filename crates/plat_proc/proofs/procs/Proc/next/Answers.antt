use Rattle.plat_base.specs.Seen.{machine}
use Rattle.plat_events.specs.Privates.{Looking, Applying}
use Rattle.plat_proc.specs.Places.{onward_seen}
use Rattle.plat_proc.proofs.TurnLemmas.{place-here, place-stands}
use Rattle.plat_proc.proofs.procs.Proc.next.Goals as goal

pub scanned-requires : goal.scanned-requires
scanned-requires c =
    let s = c.self.inside in
    let a = c.in-Looking in
    let at = place-here c.self.inside c.args.self.now _ c.self.view_is a.is in
    (place-stands (machine c.args.cfg.now) c.args.self.now (Looking a.i a.moment (onward_seen s.handler a.onward)) c.args.cfg.now.limits
    c.requires.fits at).left

pub scanned-requires-in-Applying : goal.scanned-requires-in-Applying
scanned-requires-in-Applying c =
    let s = c.self.inside in
    let a = c.in-Applying in
    let at = place-here c.self.inside c.args.self.now _ c.self.view_is a.is in
    (place-stands (machine c.args.cfg.now) c.args.self.now (Applying a.i a.message a.moment (onward_seen s.handler a.onward))
    c.args.cfg.now.limits c.requires.fits at).left
