use Rattle.std.proofs.Common.{refl}
use Rattle.std.specs.Fmt.{digits}
use Rattle.plat_base.specs.Canon.{is_short, canon_text}
use Rattle.plat_coarse_tests.proofs.follow_tests.a_guest_stands_at_its_operations.Goals as goal

-- the canonical text is computed
pub config-requires-clause-short : goal.config-requires-clause-short
unfolding is_short canon_text digits
config-requires-clause-short g c = refl
