use Rattle.std.proofs.Common.{refl}
use Rattle.std.specs.Fmt.{digits}
use Rattle.plat_base.specs.Canon.{is_short, canon_text}
use Rattle.plat_fine_tests.proofs.proc_tests.a_store_fills_its_page_and_a_load_finds_it.Goals as goal

-- the canonical text is computed
pub one_node-requires-clause-short : goal.one_node-requires-clause-short
unfolding is_short canon_text digits
one_node-requires-clause-short g c = refl
