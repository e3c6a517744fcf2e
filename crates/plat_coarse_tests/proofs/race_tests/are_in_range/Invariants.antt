use Rattle.std.proofs.Common.{◌≡◌, ◌<◌, ℕ, true}
use Rattle.plat_base.specs.Seen.{machine}
use Rattle.plat_race.specs.Orders.{is_in_range}
use Rattle.plat_race.specs.Races.{item_at}
use Rattle.plat_coarse_tests.proofs.race_tests.are_in_range.Given as goal

abbrev pub invariant-loop-item : goal.invariant-loop-item
invariant-loop-item l = (k : ℕ) → k < l.item-index → is_in_range (machine l.cfg) (item_at l.items k) ≡ true
