use Rattle.std.proofs.Common.{◌≡◌, true, [], ◌∷◌, refl}
use Rattle.std.specs.Fmt.{digits}
use Rattle.plat_base.specs.Canon.{is_short, canon_text}
use Rattle.plat_base.specs.Machine.{programs_seen}
use Rattle.plat_merge_laws.specs.Worked.{shootdown, program, writer, reader}
use Rattle.plat_table_tests.proofs.merge_tests.two_nodes.Goals as goal

-- the canonical text is computed
is_short-shootdown : is_short shootdown ≡ true
unfolding is_short canon_text digits
is_short-shootdown = refl

pub invariant_of-result : goal.invariant_of-result
invariant_of-result c =
    let guests : programs_seen c.in_ok-guests.guests.items ≡ program writer ∷ program reader ∷ [] =
    rw (c.in_ok-guests.ensures, c.in_ok-writer.ensures, c.in_ok-reader.ensures) refl in
    record {
      limits = rw (guests, c.new.ensures, c.new-2.ensures, c.in_ok-entries.ensures, c.in_ok-schedule.ensures) refl;
      short = rw (guests, c.new.ensures, c.new-2.ensures, c.in_ok-entries.ensures, c.in_ok-schedule.ensures) is_short-shootdown;
    }
