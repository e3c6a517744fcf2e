use Rattle.std.specs.Fmt.{digits}
use Rattle.plat_base.specs.Canon.{is_short, canon_text}
use Rattle.plat_low_tests.proofs.ports_tests.one_node.Goals as goal

pub small-requires-clause-limits : goal.small-requires-clause-limits
small-requires-clause-limits c = simp (c.in_ok-guests.ensures, c.new.ensures, c.new-2.ensures)

-- the canonical text is computed
pub small-requires-clause-short : goal.small-requires-clause-short
unfolding is_short canon_text digits
small-requires-clause-short c = simp (c.in_ok-guests.ensures, c.new.ensures, c.new-2.ensures)
