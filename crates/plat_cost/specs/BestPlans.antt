-- the best plan, chosen from the list of all plans
use Rattle.std.specs.Prelude.{ℕ, zero, suc, nat_le, if◌then◌else◌, List, [], ◌∷◌, map, length}
use Rattle.std.specs.List.{flat_map}
use Rattle.plat_base.specs.Machine.{Machine}
use Rattle.plat_base.specs.Pages.{numbers}
use Rattle.plat_cost.specs.Plans.{plan_cost}

-- all plans for so many accesses, compared module by module from the front
abbrev pub all_plans : (nodes accesses : ℕ) → List (List ℕ)
all_plans nodes zero = [] ∷ []
all_plans nodes (suc n) = flat_map (λ x. map (λ (xs : List ℕ). x ∷ xs) (all_plans nodes n)) (numbers nodes)

-- the first one, unless the other costs less
abbrev pub unless_cheaper : (List ℕ → ℕ) → (first other : List ℕ) → List ℕ
unless_cheaper cost first other = if nat_le (cost first) (cost other) then first else other

-- of one plan and of more plans the first that costs least
abbrev pub first_cheapest : (List ℕ → ℕ) → List ℕ → List (List ℕ) → List ℕ
first_cheapest cost x [] = x
first_cheapest cost x (y ∷ ys) = unless_cheaper cost x (first_cheapest cost y ys)

abbrev pub first_cheapest_of : (List ℕ → ℕ) → List (List ℕ) → List ℕ
first_cheapest_of cost [] = []
first_cheapest_of cost (x ∷ xs) = first_cheapest cost x xs

-- the first of the plans for these actors that cost least
unfoldable pub best_plan : Machine → List ℕ → List ℕ
best_plan m actors = first_cheapest_of (plan_cost m actors) (all_plans m.nodes (length actors))
