use Rattle.std.proofs.Common.{◌≡◌, ◌≤◌, ◌++◌, length}
use Rattle.plat_table.proofs.riders.upper.Given as goal

abbrev pub invariant-loop-actors : goal.invariant-loop-actors
invariant-loop-actors l = record {
  all : l.actors.items ++ l.others.items ≡ l.fn.actors.items;
  most : length l.fn.actors.items ≤ 9;
  least : l.keep ≤ length l.actors.items;
}

abbrev pub decreases-loop-actors : goal.decreases-loop-actors
decreases-loop-actors l = length l.actors.items
