use Rattle.std.proofs.Common.{refl}
use Rattle.plat_base.specs.Seen.{machine}
use Rattle.plat_base.specs.Verdicts.{policy_answer}
use Rattle.plat_coarse_tests.proofs.ReportTriedLemmas.{sharing-good}
use Rattle.plat_coarse_tests.proofs.report_tests.sums_up_a_shootdown.Goals as goal

pub summary-written-requires-clause-good : goal.summary-written-requires-clause-good
summary-written-requires-clause-good g c = (
  policy_answer (machine c.in_ok-cfg.cfg).policy,
  sharing-good (machine c.in_ok-cfg.cfg) c.history.result _ c.in_ok-cfg.ensures c.history.ensures
      (rw (c.halted.ensures, c.halted-2.ensures) refl),
)
