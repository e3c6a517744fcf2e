use Rattle.std.proofs.Common.{refl}
use Rattle.std.specs.Fmt.{digits}
use Rattle.plat_base.specs.Canon.{is_short, canon_text}
use Rattle.plat_fine_tests.proofs.fine_tests.two_guests_switch_and_end.Goals as goal

-- the canonical text is computed
pub run-requires-clause-short : goal.run-requires-clause-short
unfolding is_short canon_text digits
run-requires-clause-short g c = refl
