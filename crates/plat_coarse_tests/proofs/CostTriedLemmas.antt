-- what the tried machine needs to have its page placed
use Rattle.std.specs.Prelude.{◌≡◌, ℕ, zero, suc, ◌<◌, ◌≤◌, List, length}
use Rattle.std.proofs.Common.{arith, subst, sym}
use Rattle.plat_base.specs.Machine.{Machine}
use Rattle.plat_base.specs.declared.items.Item.{Item}
use Rattle.plat_cost.specs.Costs.{actors_on, CanCost, CanPlace}
use Rattle.plat_coarse_tests.specs.CostTried.{tried}

one_page : (items : List Item) → CanCost tried 0 items → length (actors_on items 0) < 16 → CanPlace tried items
one_page items costs few = record { costs = all; few = low }
  where
    all : (page : ℕ) → page < 1 → CanCost tried page items
    all zero inside = costs
    all (suc p) inside = absurd (omega arith)

    low : (page : ℕ) → page < 1 → length (actors_on items page) ≤ 16
    low zero inside = omega arith
    low (suc p) inside = absurd (omega arith)

pub tried_place : (m : Machine) (items : List Item) → m ≡ tried → CanCost m 0 items → length (actors_on items 0) < 16 → CanPlace m items
tried_place m items is costs few =
    subst (λ (m : Machine). CanPlace m items) (sym is) (one_page items (subst (λ (m : Machine). CanCost m 0 items) is costs) few)
