use Rattle.std.proofs.Common.{◌≡◌, ◌≤◌, ◌*◌, take}
use Rattle.std.specs.Prelude.{sum_by}
use Rattle.plat_base.specs.Seen.{machine}
use Rattle.plat_cost.specs.Costs.{cost_of}
use Rattle.plat_cost.proofs.costs.actual.Given as goal

abbrev pub invariant-loop-item : goal.invariant-loop-item
invariant-loop-item l = record {
  sum : l.sum ≡ sum_by (cost_of (machine l.cfg) l.page) (take l.item-index l.items);
  low : l.sum ≤ 64000 * l.item-index;
}
