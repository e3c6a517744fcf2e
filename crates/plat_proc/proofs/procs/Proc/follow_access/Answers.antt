use Rattle.std.proofs.Common.{◌≡◌, refl}
use Rattle.plat_base.specs.Seen.{machine}
use Rattle.plat_events.specs.Privates.{Loading, Exchanging}
use Rattle.plat_proc.proofs.TurnLemmas.{place-here, room-exchanged, room-here, told-here, version-below}
use Rattle.plat_proc.proofs.procs.Proc.follow_access.Goals.{In-Loading, In-Exchanging}
use Rattle.plat_proc.proofs.procs.Proc.follow_access.Goals as goal

loading : (c : In-Loading) → c.args.self.now.state.place ≡ Loading
loading c = place-here c.self.inside c.args.self.now _ c.self.view_is c.in-Loading.is

exchanging : (c : In-Exchanging) → c.args.self.now.state.place ≡ Exchanging c.in-Exchanging.seen
exchanging c = place-here c.self.inside c.args.self.now _ c.self.view_is c.in-Exchanging.is

pub end_access-requires-clause-version : goal.end_access-requires-clause-version
end_access-requires-clause-version c =
    let m = machine c.args.cfg.now in
    let at = loading (goal.at.end_access-requires-clause-version c).In-Loading in
    version-below m c.args.found c.args.cfg.now.limits (told-here m c.args.self.now c.args.found Loading at c.requires.followed)

pub end_access-requires-clause-room : goal.end_access-requires-clause-room
end_access-requires-clause-room c =
    room-here (machine c.args.cfg.now) c.args.self.now c.args.found Loading _ c.args.cfg.now.limits c.requires.fits
    c.requires.followed (loading (goal.at.end_access-requires-clause-room c).In-Loading) refl

pub write-requires-clause-version : goal.write-requires-clause-version
write-requires-clause-version c =
    let m = machine c.args.cfg.now in
    let at = exchanging (goal.at.write-requires-clause-version c).In-Exchanging in
    version-below m c.args.found c.args.cfg.now.limits
    (told-here m c.args.self.now c.args.found (Exchanging c.in-Exchanging.seen) at c.requires.followed)

pub write-requires-clause-room : goal.write-requires-clause-room
write-requires-clause-room c =
    room-exchanged (machine c.args.cfg.now) c.args.self.now c.args.found c.in-Exchanging.seen c.args.cfg.now.limits c.requires.fits
    c.requires.followed (exchanging (goal.at.write-requires-clause-room c).In-Exchanging)
