use Rattle.std.specs.Fmt.{digits}
use Rattle.plat_base.specs.Canon.{is_short, canon_text}
use Rattle.plat_fine_tests.proofs.shoot_tests.two_nodes.Goals as goal

-- the canonical text is computed
pub idle_nodes-requires-clause-short : goal.idle_nodes-requires-clause-short
unfolding is_short canon_text digits
idle_nodes-requires-clause-short c = simp c.entry.ensures
