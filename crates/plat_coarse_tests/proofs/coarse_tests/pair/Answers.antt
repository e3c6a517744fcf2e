use Rattle.std.proofs.Common.{◌≡◌, [], ◌∷◌, None, refl}
use Rattle.plat_base.specs.Machine.{programs_seen}
use Rattle.plat_coarse_tests.specs.CoarseTried.{labelled}
use Rattle.plat_coarse_tests.proofs.coarse_tests.pair.Goals as goal

pub config-requires : goal.config-requires
config-requires c =
    let guests : programs_seen c.in_ok-guests.guests.items ≡ labelled c.args.first.now c.args.spin ∷ labelled c.args.second.now None ∷ [] =
    rw (c.in_ok-guests.ensures, c.in_ok-first.ensures, c.in_ok-second.ensures) refl in
    record { limits = rw guests c.requires.limits; short = rw guests c.requires.short }
