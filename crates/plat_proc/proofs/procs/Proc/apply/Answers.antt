use Rattle.std.proofs.Common.{◌≡◌, ◌<◌, length, ap, arith}
use Rattle.plat_base.specs.Pages.{entries_of_space}
use Rattle.plat_base.specs.Seen.{machine}
use Rattle.plat_events.specs.Places.{entry_count}
use Rattle.plat_events.specs.Privates.{Applying, Private}
use Rattle.plat_proc.specs.Places.{onward_seen}
use Rattle.plat_base.proofs.EntryLists.{space_entries_few}
use Rattle.plat_proc.proofs.FitsLemmas.{stands}
use Rattle.plat_proc.proofs.TurnLemmas.{place-stands}
use Rattle.plat_proc.proofs.procs.Proc.apply.Goals.{Start}
use Rattle.plat_proc.proofs.procs.Proc.apply.Goals as goal

-- the entry that it looks at is one of its space
left : (c : Start) → c.args.i < length (entries_of_space (machine c.args.cfg.now) c.args.self.now.state.guest.space)
left c =
    let x = c.args.self.now in
    let place = Applying c.args.i c.args.message c.args.moment (onward_seen x.handler c.args.onward) in
    (place-stands (machine c.args.cfg.now) x place c.args.cfg.now.limits c.requires.fits c.requires.at).left

-- it has a place for each entry
all : (c : Start) → length c.args.self.now.state.pmap ≡ entry_count (machine c.args.cfg.now)
all c = (stands (machine c.args.cfg.now) c.args.self.now c.args.cfg.now.limits c.requires.fits).standing.all_entries

pub scanned-entry-requires : goal.scanned-entry-requires
scanned-entry-requires c = left (goal.at.scanned-entry-requires c).Start

pub note-requires-clause-entry : goal.note-requires-clause-entry
note-requires-clause-entry c =
    omega (arith, all (goal.at.note-requires-clause-entry c).Start, c.scanned-entry.ensures.within)

pub receive-requires : goal.receive-requires
receive-requires c =
    let same = ap (λ (p : Private). length p.pmap) c.note.ensures.state in
    omega (arith, all (goal.at.receive-requires c).Start, same, c.scanned-entry.ensures.within)

pub overflow_add-i : goal.overflow_add-i
overflow_add-i c =
    let few = space_entries_few c.args.cfg.now c.args.self.now.state.guest.space in
    let below : c.args.i < 512 = omega (arith, left (goal.at.overflow_add-i c).Start, few) in
    omega (arith, below)
