use Rattle.std.specs.Fmt.{digits}
use Rattle.plat_base.specs.Canon.{is_short, canon_text}
use Rattle.plat_low_tests.proofs.base_tests.small.Goals as goal

pub invariant_of-result-clause-limits : goal.invariant_of-result-clause-limits
invariant_of-result-clause-limits c =
    simp (
      c.new-3.ensures,
      c.new-4.ensures,
      c.in_ok-entries.ensures,
      c.push.ensures.items,
      c.in_ok-guests.ensures.empty,
      c.new.ensures,
      c.new-2.ensures,
    )

pub invariant_of-result-clause-short : goal.invariant_of-result-clause-short
unfolding is_short canon_text digits
invariant_of-result-clause-short c =
    simp (
      c.new-3.ensures,
      c.new-4.ensures,
      c.in_ok-entries.ensures,
      c.push.ensures.items,
      c.in_ok-guests.ensures.empty,
      c.new.ensures,
      c.new-2.ensures,
    )
