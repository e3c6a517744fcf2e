use Rattle.std.proofs.Common.{refl}
use Rattle.std.specs.Fmt.{digits}
use Rattle.plat_base.specs.Canon.{is_short, canon_text}
use Rattle.plat_coarse_tests.proofs.coarse_tests.a_thawed_page_may_be_copied.Goals as goal

-- the canonical text is computed
pub pair-requires-clause-short : goal.pair-requires-clause-short
unfolding is_short canon_text digits
pair-requires-clause-short g c = refl
