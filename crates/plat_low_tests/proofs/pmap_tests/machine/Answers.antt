use Rattle.std.specs.Fmt.{digits}
use Rattle.plat_base.specs.Canon.{is_short, canon_text}
use Rattle.plat_low_tests.proofs.pmap_tests.machine.Goals as goal

-- the canonical text is computed
pub idle_nodes-requires-clause-short : goal.idle_nodes-requires-clause-short
unfolding is_short canon_text digits
idle_nodes-requires-clause-short c = simp (c.entry.ensures, c.entry-2.ensures)
