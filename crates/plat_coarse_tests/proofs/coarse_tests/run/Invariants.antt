use Rattle.std.proofs.Common.{◌≡◌}
use Rattle.plat_coarse_tests.proofs.coarse_tests.run.Given as goal

abbrev pub invariant-loop-q : goal.invariant-loop-q
invariant-loop-q g l = l.coarse.machine ≡ l.fn.coarse.machine
