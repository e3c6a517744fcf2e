use Rattle.std.proofs.Common.{◌≡◌, ◌≤◌, ◌+◌, drop}
use Rattle.plat_cost.specs.Plans.{is_move, moves_of}
use Rattle.plat_cost.proofs.costs.moves.Given as goal

-- what was counted and what is left
abbrev pub invariant-loop-module : goal.invariant-loop-module
invariant-loop-module l = record {
  low : l.moves ≤ l.module-index;
  left : l.moves + (is_move l.at (drop l.module-index l.plan) + moves_of (drop l.module-index l.plan)) ≡ moves_of l.plan;
}
