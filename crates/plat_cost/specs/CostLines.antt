-- the lines of the costs of a history
use Rattle.std.specs.Prelude.{ℕ, zero, suc, ◌+◌, ◌==◌, not, if◌then◌else◌, Bool, true, List, [], ◌∷◌, ◌++◌, length, slice_index, sum_by}
use Rattle.std.specs.Prelude.{codes}
use Rattle.std.specs.List.{flat_map}
use Rattle.std.specs.Fmt.{decimal}
use Rattle.plat_base.specs.Text.{text_bytes}
use Rattle.plat_base.specs.Canon.{Words}
use Rattle.plat_base.specs.Machine.{Machine}
use Rattle.plat_base.specs.Pages.{numbers}
use Rattle.plat_base.specs.declared.items.Item.{Item}
use Rattle.plat_cost.specs.BestPlans.{best_plan}
use Rattle.plat_cost.specs.Costs.{actors_on, actual}
use Rattle.plat_cost.specs.Plans.{plan_cost, moves_of}

-- ---- a plan

-- the copy comes to its module at access k, counted from 0: at the first one, and where the plan moves
abbrev pub comes_at : List ℕ → ℕ → Bool
comes_at plan zero = true
comes_at plan (suc k) = not (slice_index plan (suc k) == slice_index plan k)

abbrev pub place_line : List ℕ → ℕ → Words
place_line plan k = codes "from" ∷ decimal (k + 1) ∷ codes "at" ∷ decimal (slice_index plan k) ∷ []

abbrev pub place_lines : List ℕ → ℕ → List Words
place_lines plan k = if comes_at plan k then place_line plan k ∷ [] else []

abbrev pub plan_lines : List ℕ → List Words
plan_lines plan = flat_map (place_lines plan) (numbers (length plan))

-- ---- a page

abbrev pub page_line : (page accesses actual least moves : ℕ) → Words
page_line page accesses actual least moves =
    codes "page" ∷ decimal page ∷ codes "accesses" ∷ decimal accesses ∷ codes "actual" ∷ decimal actual ∷ codes "least" ∷ decimal least
    ∷ codes "moves" ∷ decimal moves ∷ []

-- a page without accesses has no lines
abbrev pub placed_lines : (page accesses actual least moves : ℕ) → List ℕ → List Words
placed_lines page accesses actual least moves plan =
    if accesses == 0 then [] else page_line page accesses actual least moves ∷ plan_lines plan

-- what the best plan for a page costs
abbrev pub least : Machine → List Item → ℕ → ℕ
least m items page = plan_cost m (actors_on items page) (best_plan m (actors_on items page))

unfoldable pub page_lines : Machine → List Item → ℕ → List Words
page_lines m items page =
    let plan = best_plan m (actors_on items page)
    in placed_lines page (length (actors_on items page)) (actual m items page) (least m items page) (moves_of plan) plan

-- ---- the whole

abbrev pub total_line : (actual least : ℕ) → Words
total_line actual least = codes "total" ∷ codes "actual" ∷ decimal actual ∷ codes "least" ∷ decimal least ∷ []

-- the lines of each page, and the sums over all pages
abbrev pub cost_lines : Machine → List Item → List Words
cost_lines m items =
    (codes "platinum" ∷ codes "cost" ∷ codes "1" ∷ []) ∷ flat_map (page_lines m items) (numbers m.pages)
    ++ total_line (sum_by (actual m items) (numbers m.pages)) (sum_by (least m items) (numbers m.pages)) ∷ []

unfoldable pub cost_text : Machine → List Item → List ℕ
cost_text m items = text_bytes (cost_lines m items)
