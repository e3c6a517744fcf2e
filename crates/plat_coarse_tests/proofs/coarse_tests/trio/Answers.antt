use Rattle.std.proofs.Common.{◌≡◌, refl}
use Rattle.plat_base.specs.Machine.{programs_seen}
use Rattle.plat_coarse_tests.specs.CoarseTried.{trio_guests}
use Rattle.plat_coarse_tests.proofs.coarse_tests.trio.Goals as goal

pub config-requires : goal.config-requires
config-requires c =
    let guests : programs_seen c.in_ok-guests.guests.items ≡ trio_guests c.args.first.now c.args.others.now =
    rw (c.in_ok-guests.ensures, c.in_ok-first.ensures, c.in_ok-second.ensures, c.in_ok-third.ensures) refl in
    record { limits = rw guests c.requires.limits; short = rw guests c.requires.short }
