use Rattle.std.proofs.Common.{refl}
use Rattle.plat_base.specs.Seen.{machine}
use Rattle.plat_base.specs.Verdicts.{policy_answer}
use Rattle.plat_coarse_tests.proofs.ReportTriedLemmas.{smallest-good}
use Rattle.plat_coarse_tests.proofs.report_tests.reports_the_smallest_run.Goals as goal

pub report-written-requires-clause-good : goal.report-written-requires-clause-good
report-written-requires-clause-good g c = (
  policy_answer (machine c.in_ok-cfg.cfg).policy,
  smallest-good (machine c.in_ok-cfg.cfg) c.smallest_items.result _ c.in_ok-cfg.ensures c.smallest_items.ensures (rw c.halted.ensures refl),
)
