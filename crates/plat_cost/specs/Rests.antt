-- the least cost of the rest of a plan, for each access and module: the table from which the best plan is read
use Rattle.std.specs.Prelude.{◌≡◌, ℕ, suc, ◌+◌, ◌*◌, ◌<◌, ◌≤◌, List, [], ◌∷◌, length, slice_index}
use Rattle.plat_base.specs.Machine.{Machine}
use Rattle.plat_base.specs.Pages.{distance}

-- of the numbers below n the first one at which f is least
pub record IsFirstLeast (f : ℕ → ℕ) (n y : ℕ) : Type 0 where
  pub within : y < n
  pub least : (z : ℕ) → z < n → f y ≤ f z
  pub first : (z : ℕ) → z < y → f y < f z

-- what follows an access at module x, where the copy goes on to module y
abbrev pub onward : Machine → (ℕ → ℕ → ℕ) → (i x y : ℕ) → ℕ
onward m r i x y = m.words * distance m y x + r (suc i) y

-- from access k on, each number is the least cost of the rest
pub record IsTableFrom (m : Machine) (actors : List ℕ) (k : ℕ) (r : ℕ → ℕ → ℕ) : Type 0 where
  pub last : (i x : ℕ) → k ≤ i → suc i ≡ length actors → x < m.nodes → r i x ≡ distance m (slice_index actors i) x
  pub earlier :
      (i x : ℕ) → k ≤ i → suc i < length actors → x < m.nodes
      → (y : ℕ) × IsFirstLeast (onward m r i x) m.nodes y × (r i x ≡ distance m (slice_index actors i) x + onward m r i x y)

-- from module x on the plan takes the first module of the least rest each time
abbrev pub IsWalk : Machine → (ℕ → ℕ → ℕ) → ℕ → (more plan : List ℕ) → Type 0
IsWalk m r x [] [] = Unit {0}
IsWalk m r x [] (y ∷ ys) = ⊥
IsWalk m r x (b ∷ more) [] = ⊥
IsWalk m r x (b ∷ more) (y ∷ ys) = IsFirstLeast (onward m r 0 x) m.nodes y × IsWalk m (λ i. r (suc i)) y more ys

-- ---- rows in one flat list

-- what follows an access at module x by way of module y, where the row of the next access begins at next
abbrev pub onward_at : Machine → List ℕ → (next x y : ℕ) → ℕ
onward_at m rest next x y = m.words * distance m y x + slice_index rest (next + y)

-- from a place on no number is above top
abbrev pub AreLow : List ℕ → (from top : ℕ) → Type 0
AreLow rest from top = (k : ℕ) → from ≤ k → slice_index rest k ≤ top

-- from a place on the numbers are as they were
abbrev pub IsKeptFrom : ℕ → List ℕ → List ℕ → Type 0
IsKeptFrom from old new = (k : ℕ) → from ≤ k → slice_index new k ≡ slice_index old k

-- each number of the row that begins at base is the actor's distance
abbrev pub IsLastRow : Machine → ℕ → ℕ → List ℕ → Type 0
IsLastRow m actor base rest = (x : ℕ) → x < m.nodes → slice_index rest (base + x) ≡ distance m actor x

-- each of n numbers of the row that begins at base is the actor's distance and the least that follows
abbrev pub IsRowOf : Machine → ℕ → List ℕ → ℕ → List ℕ → ℕ → Type 0
IsRowOf m actor old base new n =
    (x : ℕ) → x < n
    → (y : ℕ) × IsFirstLeast (onward_at m old (base + m.nodes) x) m.nodes y
    × (slice_index new (base + x) ≡ distance m actor x + onward_at m old (base + m.nodes) x y)

-- each of n numbers of the row is at most 65,000 above the numbers behind it
abbrev pub AreRisen : List ℕ → ℕ → List ℕ → (base n : ℕ) → Type 0
AreRisen old next new base n = (top : ℕ) → AreLow old next top → (x : ℕ) → x < n → slice_index new (base + x) ≤ top + 65000

-- the first n modules of the plan: the first least number, and then the first module of the least rest each time
pub record IsWalked (m : Machine) (rest plan : List ℕ) (n : ℕ) : Type 0 where
  pub start : IsFirstLeast (slice_index rest) m.nodes (slice_index plan 0)
  pub steps :
      (k : ℕ) → suc k < n
      → IsFirstLeast (onward_at m rest (suc k * m.nodes) (slice_index plan k)) m.nodes (slice_index plan (suc k))

-- from access i on, whose row begins at base, no number is above 65,000 for each access that is left
abbrev pub IsLowTable : List ℕ → (base i count : ℕ) → Type 0
IsLowTable rest base i count = (k : ℕ) → base ≤ k → slice_index rest k + i * 65000 ≤ count * 65000
