use Rattle.std.proofs.Common.{refl}
use Rattle.std.specs.Fmt.{digits}
use Rattle.plat_base.specs.Canon.{is_short, canon_text}
use Rattle.plat_low_tests.proofs.guest_tests.traps_without_an_entry.Goals as goal

-- the canonical text is computed
pub small_config-requires-clause-short : goal.small_config-requires-clause-short
unfolding is_short canon_text digits
small_config-requires-clause-short g c = refl
