-- certificates, number by number
use Rattle.std.specs.Prelude.{◌≡◌, ◌↔◌, ℕ, suc, ◌+◌, ◌*◌, ◌<◌, ◌≤◌, Bool, true, false, List, [], ◌∷◌, length, slice_index, IsTrue}
use Rattle.std.proofs.Common.{ap, arith}
use Rattle.std.proofs.Math.Nat.{mul-le-mul_right}
use Rattle.plat_base.specs.Machine.{Machine}
use Rattle.plat_base.specs.Pages.{distance}
use Rattle.plat_cost.specs.Certificates.{number_at, IsBelow, IsCertificate, IsNumberBelow, IsRowBelow, IsOnwardBelow}

-- ---- answers of tests

-- where one is refused, not all hold
pub refused : (P Q : Type 0) (b : Bool) → b ≡ false → (IsTrue b ↔ P) → (Q → P) → (IsTrue false → Q) × (Q → IsTrue false)
refused P Q true e h f = absurd cc
refused P Q false e h f = ((λ t. absurd cc), (λ q. h.1 (f q)))

-- ---- rows

-- the row of the next access is within the list
pub next_row : (i n nodes size : ℕ) → suc (suc i) ≤ n → size ≡ n * nodes → (i + 1) * nodes + nodes ≤ size
next_row i n nodes size l e =
    let product : suc (suc i) * nodes ≤ n * nodes = mul-le-mul_right nodes l
    in let s : suc (suc i) * nodes ≡ (i + 1) * nodes + nodes = omega arith
    in omega arith

pub first_row : (n nodes size : ℕ) → 0 < n → size ≡ n * nodes → nodes ≤ size
first_row n nodes size l e = let product : 1 * nodes ≤ n * nodes = mul-le-mul_right nodes l in omega arith

module _ (m : Machine) (actors rest : List ℕ) where
  -- a number before the last row, by what follows
  pub onward_number :
      (i x number own next : ℕ) (b : Bool) → suc i < length actors → number ≡ number_at m rest i x
      → own ≡ distance m (slice_index actors i) x → next ≡ suc i * m.nodes → (IsTrue b ↔ IsOnwardBelow m rest number own next x)
      → (IsTrue b → IsNumberBelow m actors (number_at m rest) i x) × (IsNumberBelow m actors (number_at m rest) i x → IsTrue b)
  onward_number i x number own next b l is way at h = (
    (λ t. ((λ e. absurd (omega arith)), (λ k y w. let under = h.0 t y w in let same = row y in omega arith))),
    (λ below. h.1 (λ y w. let under = below.1 l y w in let same = row y in omega arith)),
  )
    where
      row : (y : ℕ) → slice_index rest (next + y) ≡ number_at m rest (suc i) y
      row y = ap (λ n. slice_index rest (n + y)) at

  pub rows_below : ((i : ℕ) → i < length actors → IsRowBelow m actors (number_at m rest) i) → IsBelow m actors (number_at m rest)
  rows_below rows = record {
    last = λ i x e l. (rows i (omega arith) x l).0 e;
    earlier = λ i x y e l k. (rows i (omega arith) x l).1 e y k;
  }

  pub below_rows : IsBelow m actors (number_at m rest) → (i : ℕ) → i < length actors → IsRowBelow m actors (number_at m rest) i
  below_rows h i l x k = ((λ e. h.last i x e k), (λ e y w. h.earlier i x y e k w))

-- ---- the whole

module _ (m : Machine) (rest : List ℕ) (least : ℕ) where
  start : (x : ℕ) → number_at m rest 0 x ≡ slice_index rest x
  start x = let e : 0 * m.nodes + x ≡ x = omega arith in ap (slice_index rest) e

  pub certificate_rows :
      (actors : List ℕ) → 0 < length actors → IsCertificate m actors rest least
      → (i : ℕ) → i < length actors → IsRowBelow m actors (number_at m rest) i
  certificate_rows [] l h = absurd (omega arith)
  certificate_rows (a ∷ more) l h = below_rows m (a ∷ more) rest h.0

  -- where all rows are low enough, what is left is the bound itself
  pub certificate_least :
      (actors : List ℕ) (b : Bool) → 0 < length actors → ((i : ℕ) → i < length actors → IsRowBelow m actors (number_at m rest) i)
      → (IsTrue b ↔ ((x : ℕ) → x < m.nodes → least ≤ slice_index rest x))
      → (IsTrue b → IsCertificate m actors rest least) × (IsCertificate m actors rest least → IsTrue b)
  certificate_least [] b l rows h = absurd (omega arith)
  certificate_least (a ∷ more) b l rows h = (
    (λ t. (rows_below m (a ∷ more) rest rows, (λ x w. let low = h.0 t x w in let e = start x in omega arith))),
    (λ cert. h.1 (λ x w. let low = cert.1 x w in let e = start x in omega arith)),
  )
