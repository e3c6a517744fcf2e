-- plans of a page with a single copy that may move: for each access a module, what that costs, and the best plan
use Rattle.std.specs.Prelude.{◌≡◌, ◌⊎◌, ℕ, ◌+◌, ◌*◌, ◌<◌, ◌≤◌, ◌==◌, if◌then◌else◌, List, [], ◌∷◌}
use Rattle.plat_base.specs.Machine.{Machine}
use Rattle.plat_base.specs.Pages.{distance}

-- the copy moves word by word, from the old module to the next one of the plan
abbrev pub move_cost : Machine → ℕ → List ℕ → ℕ
move_cost m from [] = 0
move_cost m from (to ∷ later) = m.words * distance m to from

-- what a plan costs these actors, one access after another
abbrev pub plan_cost : Machine → (actors plan : List ℕ) → ℕ
plan_cost m [] plan = 0
plan_cost m (a ∷ more) [] = 0
plan_cost m (a ∷ more) (x ∷ xs) = distance m a x + (move_cost m x xs + plan_cost m more xs)

-- a plan has one module of the machine for each access
abbrev pub IsPlan : Machine → (actors plan : List ℕ) → Type 0
IsPlan m [] [] = Unit {0}
IsPlan m [] (x ∷ xs) = ⊥
IsPlan m (a ∷ more) [] = ⊥
IsPlan m (a ∷ more) (x ∷ xs) = (x < m.nodes) × IsPlan m more xs

-- plans are compared module by module from the front
abbrev pub StandsBefore : List ℕ → List ℕ → Type 0
StandsBefore [] ys = ⊥
StandsBefore (x ∷ xs) [] = ⊥
StandsBefore (x ∷ xs) (y ∷ ys) = (x < y) ⊎ ((x ≡ y) × StandsBefore xs ys)

-- the first plan of the least cost
pub record IsBestPlan (m : Machine) (actors plan : List ℕ) : Type 0 where
  pub possible : IsPlan m actors plan
  pub least : (other : List ℕ) → IsPlan m actors other → plan_cost m actors plan ≤ plan_cost m actors other
  pub first : (other : List ℕ) → IsPlan m actors other → plan_cost m actors other ≡ plan_cost m actors plan → StandsBefore other plan → ⊥

abbrev pub HasOneBestPlan : Machine → List ℕ → Type 0
HasOneBestPlan m actors = (some other : List ℕ) → IsBestPlan m actors some → IsBestPlan m actors other → some ≡ other

-- every plan for these actors costs at least so much
abbrev pub IsBound : Machine → List ℕ → ℕ → Type 0
IsBound m actors least = (plan : List ℕ) → IsPlan m actors plan → least ≤ plan_cost m actors plan

abbrev pub is_move : ℕ → List ℕ → ℕ
is_move x [] = 0
is_move x (y ∷ ys) = if x == y then 0 else 1

-- how often a plan moves
abbrev pub moves_of : List ℕ → ℕ
moves_of [] = 0
moves_of (x ∷ xs) = is_move x xs + moves_of xs
