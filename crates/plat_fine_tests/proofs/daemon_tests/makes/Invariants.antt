use Rattle.plat_base.specs.Seen.{machine}
use Rattle.plat_daemon.specs.Fits.{Fits}
use Rattle.plat_fine_tests.proofs.daemon_tests.makes.Given as goal

abbrev pub invariant-loop-made : goal.invariant-loop-made
invariant-loop-made l = Fits (machine l.cfg) l.daemon
