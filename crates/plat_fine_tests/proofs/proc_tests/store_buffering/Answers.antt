use Rattle.std.proofs.Common.{◌≡◌, true, [], ◌∷◌, refl}
use Rattle.std.specs.Fmt.{digits}
use Rattle.plat_base.specs.Canon.{is_short, canon_text}
use Rattle.plat_base.specs.Machine.{programs_seen}
use Rattle.plat_fine_tests.specs.ProcTried.{buffering_guest, store_buffering}
use Rattle.plat_fine_tests.proofs.proc_tests.store_buffering.Goals as goal

-- the canonical text is computed
short : is_short store_buffering ≡ true
unfolding is_short canon_text digits
short = refl

pub small-requires : goal.small-requires
small-requires c =
    let guests : programs_seen c.in_ok-guests.guests.items ≡ buffering_guest 0 4 ∷ buffering_guest 4 0 ∷ [] =
    rw (c.in_ok-guests.ensures, c.in_ok-first.ensures, c.in_ok-second.ensures) refl in
    rw (guests, c.entry.ensures, c.entry-2.ensures) (record { limits = refl; short = short })
