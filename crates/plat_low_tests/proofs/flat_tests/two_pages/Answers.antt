use Rattle.std.proofs.Common.{refl}
use Rattle.std.specs.Fmt.{digits}
use Rattle.plat_base.specs.Canon.{is_short, canon_text}
use Rattle.plat_low_tests.proofs.flat_tests.two_pages.Goals as goal

-- the canonical text is computed
pub idle_nodes-requires-clause-short : goal.idle_nodes-requires-clause-short
unfolding is_short canon_text digits
idle_nodes-requires-clause-short c = refl
