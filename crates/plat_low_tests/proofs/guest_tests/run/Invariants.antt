use Rattle.std.proofs.Common.{◌≡◌}
use Rattle.plat_low_tests.proofs.guest_tests.run.Given as goal

abbrev pub invariant-loop : goal.invariant-loop
invariant-loop l = l.guest.node ≡ 0
