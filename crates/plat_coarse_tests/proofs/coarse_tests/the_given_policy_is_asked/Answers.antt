use Rattle.std.proofs.Common.{refl}
use Rattle.std.specs.Fmt.{digits}
use Rattle.plat_base.specs.Canon.{is_short, canon_text}
use Rattle.plat_coarse_tests.proofs.coarse_tests.the_given_policy_is_asked.Goals as goal

-- the canonical text is computed
pub trio-requires-clause-short : goal.trio-requires-clause-short
unfolding is_short canon_text digits
trio-requires-clause-short g c = refl
