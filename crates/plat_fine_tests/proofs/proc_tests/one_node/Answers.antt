use Rattle.std.proofs.Common.{◌≡◌, [], ◌∷◌, refl}
use Rattle.plat_base.specs.Machine.{programs_seen}
use Rattle.plat_samples.specs.Samples.{guest}
use Rattle.plat_fine_tests.proofs.proc_tests.one_node.Goals as goal

pub small-requires : goal.small-requires
small-requires c =
    let guests : programs_seen c.in_ok-guests.guests.items ≡ guest c.args.code.now [] ∷ [] =
    rw (c.in_ok-guests.ensures, c.in_ok-guest.ensures) refl in
    record { limits = rw (guests, c.entry.ensures) c.requires.limits; short = rw (guests, c.entry.ensures) c.requires.short }
