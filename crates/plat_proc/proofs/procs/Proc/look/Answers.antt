use Rattle.std.proofs.Common.{arith}
use Rattle.plat_base.specs.Seen.{machine}
use Rattle.plat_events.specs.Privates.{Looking}
use Rattle.plat_proc.specs.Places.{onward_seen}
use Rattle.plat_base.proofs.EntryLists.{space_entries_few}
use Rattle.plat_proc.proofs.TurnLemmas.{place-stands}
use Rattle.plat_proc.proofs.procs.Proc.look.Goals as goal

pub looked-requires-clause-below : goal.looked-requires-clause-below
looked-requires-clause-below c =
    let x = c.args.self.now in
    let stands =
    place-stands (machine c.args.cfg.now) x (Looking c.args.i c.args.moment (onward_seen x.handler c.args.onward)) c.args.cfg.now.limits
    c.requires.fits c.requires.at in
    omega (arith, stands.left, space_entries_few c.args.cfg.now x.state.guest.space)
