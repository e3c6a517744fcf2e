-- certificates of a bound: for each access and module a number that no rest of a plan from there on goes below
use Rattle.std.specs.Prelude.{◌≡◌, ℕ, suc, ◌+◌, ◌*◌, ◌<◌, ◌≤◌, List, [], ◌∷◌, length, slice_index}
use Rattle.plat_base.specs.Machine.{Machine}
use Rattle.plat_base.specs.Pages.{distance}

-- the number of an access and a module, in a list with one number for each module, access after access
abbrev pub number_at : Machine → List ℕ → (i x : ℕ) → ℕ
number_at m rest i x = slice_index rest (i * m.nodes + x)

-- each number is at most what an access costs at the module, with what the next access adds at any module
pub record IsBelow (m : Machine) (actors : List ℕ) (r : ℕ → ℕ → ℕ) : Type 0 where
  pub last : (i x : ℕ) → suc i ≡ length actors → x < m.nodes → r i x ≤ distance m (slice_index actors i) x
  pub earlier :
      (i x y : ℕ) → suc i < length actors → x < m.nodes → y < m.nodes
      → r i x ≤ distance m (slice_index actors i) x + (m.words * distance m y x + r (suc i) y)

-- the numbers show that no plan costs these actors less than so much
abbrev pub IsCertificate : Machine → (actors rest : List ℕ) → ℕ → Type 0
IsCertificate m [] rest least = least ≡ 0
IsCertificate m (a ∷ more) rest least =
    IsBelow m (a ∷ more) (number_at m rest) × ((x : ℕ) → x < m.nodes → least ≤ number_at m rest 0 x)

-- the number of one access and one module is at most what a plan from there costs, by the numbers of the next access
abbrev pub IsNumberBelow : Machine → List ℕ → (ℕ → ℕ → ℕ) → (i x : ℕ) → Type 0
IsNumberBelow m actors r i x =
    (suc i ≡ length actors → r i x ≤ distance m (slice_index actors i) x)
    × (suc i < length actors → (y : ℕ) → y < m.nodes → r i x ≤ distance m (slice_index actors i) x + (m.words * distance m y x + r
    (suc i) y))

abbrev pub IsRowBelow : Machine → List ℕ → (ℕ → ℕ → ℕ) → ℕ → Type 0
IsRowBelow m actors r i = (x : ℕ) → x < m.nodes → IsNumberBelow m actors r i x

abbrev pub AreRowsBelow : Machine → List ℕ → List ℕ → Type 0
AreRowsBelow m actors rest = (i : ℕ) → i < length actors → IsRowBelow m actors (number_at m rest) i

-- the bound is at most each number of the first access
abbrev pub IsLowest : Machine → List ℕ → ℕ → Type 0
IsLowest m rest least = (x : ℕ) → x < m.nodes → least ≤ slice_index rest x

-- it is at most what the access costs there, and what the next access adds at any module
abbrev pub IsOnwardBelow : Machine → List ℕ → (number own next x : ℕ) → Type 0
IsOnwardBelow m rest number own next x =
    (y : ℕ) → y < m.nodes → number ≤ own + (m.words * distance m y x + slice_index rest (next + y))
