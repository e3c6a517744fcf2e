use Rattle.std.proofs.Common.{refl}
use Rattle.std.specs.Fmt.{digits}
use Rattle.plat_base.specs.Canon.{is_short, canon_text}
use Rattle.plat_coarse_tests.proofs.coarse_tests.one_processor_fills_a_page_and_ends.Goals as goal

-- the canonical text is computed
pub alone-requires-clause-short : goal.alone-requires-clause-short
unfolding is_short canon_text digits
alone-requires-clause-short g c = refl
