use Rattle.std.proofs.Common.{◌≡◌, [], ◌∷◌, refl}
use Rattle.plat_base.specs.Machine.{programs_seen}
use Rattle.plat_samples.specs.Samples.{guest}
use Rattle.plat_coarse_tests.specs.ReportTried.{smallest_code}
use Rattle.plat_coarse_tests.proofs.ReportTriedLemmas.{smallest-short}
use Rattle.plat_coarse_tests.proofs.report_tests.smallest.Goals as goal

pub small-requires : goal.small-requires
small-requires c =
    let guests : programs_seen c.in_ok-guests.guests.items ≡ guest smallest_code [] ∷ [] =
    rw (c.in_ok-guests.ensures, c.in_ok-guest.ensures) refl in
    rw (guests, c.entry.ensures) (record { limits = refl; short = smallest-short })
