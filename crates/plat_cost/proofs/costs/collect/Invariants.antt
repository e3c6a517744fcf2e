use Rattle.std.proofs.Common.{◌≡◌, ◌≤◌, ◌++◌, length, take, drop}
use Rattle.plat_cost.specs.Costs.{actors_on}
use Rattle.plat_cost.proofs.costs.collect.Given as goal

-- those that stand there and those to come are all of them
abbrev pub invariant-loop-item : goal.invariant-loop-item
invariant-loop-item l = record {
  within : l.count ≤ length l.actors;
  all : take l.count l.actors ++ actors_on (drop l.item-index l.items) l.page ≡ actors_on l.items l.page;
}
