use Rattle.std.proofs.Common.{refl}
use Rattle.std.specs.Fmt.{digits}
use Rattle.plat_base.specs.Canon.{is_short, canon_text}
use Rattle.plat_text_tests.proofs.print_tests.with_each_line.Goals as goal

pub config-requires-clause-limits : goal.config-requires-clause-limits
config-requires-clause-limits c = rw (c.in_ok-plan.ensures, c.in_ok-guests.ensures) refl

-- the canonical text is computed
pub config-requires-clause-short : goal.config-requires-clause-short
unfolding is_short canon_text digits
config-requires-clause-short c = rw (c.in_ok-plan.ensures, c.in_ok-guests.ensures) refl
