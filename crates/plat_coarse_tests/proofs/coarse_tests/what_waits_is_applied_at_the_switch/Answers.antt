use Rattle.std.proofs.Common.{refl}
use Rattle.std.specs.Fmt.{digits}
use Rattle.plat_base.specs.Canon.{is_short, canon_text}
use Rattle.plat_coarse_tests.proofs.coarse_tests.what_waits_is_applied_at_the_switch.Goals as goal

-- the canonical text is computed
pub pair_comes_to-requires-clause-short : goal.pair_comes_to-requires-clause-short
unfolding is_short canon_text digits
pair_comes_to-requires-clause-short g c = refl
