use Rattle.std.proofs.Common.{◌≡◌, ◌<◌, ℕ, true, get_or}
use Rattle.plat_base.specs.Seen.{machine}
use Rattle.plat_base.specs.declared.items.Item.{Item}
use Rattle.plat_cost.specs.Costs.{can_cost}
use Rattle.plat_coarse_tests.proofs.cost_tests.can_cost_all.Given as goal

abbrev pub invariant-loop-item : goal.invariant-loop-item
invariant-loop-item l = (k : ℕ) (d : Item) → k < l.item-index → can_cost (machine l.cfg) 0 (get_or l.items k d) ≡ true
