use Rattle.std.proofs.Common.{◌≡◌}
use Rattle.plat_policy.proofs.Walks.{copies_from}
use Rattle.plat_policy.proofs.distances.lowest.Given as goal

abbrev pub invariant-loop-module : goal.invariant-loop-module
invariant-loop-module l = copies_from l.module l.copies ≡ l.copies
