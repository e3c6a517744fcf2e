use Rattle.std.proofs.Common.{◌≡◌, [], ◌∷◌, refl}
use Rattle.plat_base.specs.Machine.{programs_seen}
use Rattle.plat_coarse_tests.specs.FollowTried.{labelled}
use Rattle.plat_coarse_tests.proofs.follow_tests.config.Goals as goal

pub small-requires : goal.small-requires
small-requires c =
    let guests : programs_seen c.in_ok-guests.guests.items ≡ labelled c.args.first.now c.args.a ∷ labelled c.args.second.now c.args.b ∷ [] =
    rw (c.in_ok-guests.ensures, c.in_ok-first.ensures, c.in_ok-second.ensures) refl in
    record {
      limits = rw (guests, c.entry.ensures, c.entry-2.ensures) c.requires.limits;
      short = rw (guests, c.entry.ensures, c.entry-2.ensures) c.requires.short;
    }
