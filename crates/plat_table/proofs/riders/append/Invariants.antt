use Rattle.std.proofs.Common.{◌≡◌, ◌+◌, ◌≤◌, ◌++◌, length}
use Rattle.plat_table.proofs.riders.append.Given as goal

abbrev pub invariant-loop-actors : goal.invariant-loop-actors
invariant-loop-actors l = record {
  all : l.actors.items ++ l.others.items ≡ l.fn.actors.items ++ l.fn.others.items;
  most : length l.actors.items + length l.others.items ≤ 9;
}

abbrev pub decreases-loop-actors : goal.decreases-loop-actors
decreases-loop-actors l = length l.others.items
