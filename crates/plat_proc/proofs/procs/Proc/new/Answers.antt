use Rattle.std.proofs.Common.{◌≤◌, ◌+◌, ap, length, arith}
use Rattle.plat_base.specs.Rooms.{processor_room}
use Rattle.plat_base.specs.Seen.{machine}
use Rattle.plat_guest.specs.GuestSeen.{GuestSeen}
use Rattle.plat_pmap.specs.Slots.{places}
use Rattle.plat_proc.proofs.StepLemmas.{first-made, private_at, starts-well}
use Rattle.plat_proc.proofs.procs.Proc.new.Goals as goal

pub returns-clause-fits : goal.returns-clause-fits
returns-clause-fits c =
    let m = machine c.args.cfg.now in
    let journal = c.in_ok-with_room.field-0 in
    let guest = c.new.result.state in
    let pmap = c.in_ok-new.field-0 in
    let atc = places c.new-3.result in
    let due = c.period.result in
    let room : processor_room m.budget ≤ length journal.items + journal.spare =
    omega (arith, c.in_ok-with_room.ensures.room, ap length c.in_ok-with_room.ensures.empty) in
    starts-well m c.args.q (length journal.items + journal.spare) (private_at guest pmap atc due journal.items) c.new-3.result
    c.requires.processor room
    (first-made m c.args.q guest pmap atc due journal.items c.requires.processor (ap (λ (g : GuestSeen). g.state) c.new.ensures)
    c.in_ok-new.ensures c.new-3.ensures.places c.period.ensures c.in_ok-with_room.ensures.empty)
    c.new-3.ensures.slots
