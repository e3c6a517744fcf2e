use Rattle.std.proofs.Common.{◌≡◌, ◌≤◌, ◌+◌, length, drop}
use Rattle.plat_cost.specs.Costs.{actors_on}
use Rattle.plat_coarse_tests.proofs.cost_tests.accesses.Given as goal

abbrev pub invariant-loop-item : goal.invariant-loop-item
invariant-loop-item l = record {
  low : l.count ≤ l.item-index;
  left : l.count + length (actors_on (drop l.item-index l.items) 0) ≡ length (actors_on l.items 0);
}
