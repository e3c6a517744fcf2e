-- numbers that rise
use Rattle.std.proofs.Common.{◌≡◌, ℕ, zero, suc, ◌+◌, ◌<◌, ◌≤◌, List, [], ◌∷◌, ◌++◌, length, take, drop, refl, ap, ◌∙◌, subst, arith}
use Rattle.std.specs.Prelude.{All}
use Rattle.std.specs.List.{range_with_len}
use Rattle.std.proofs.lemmas.List.Elements.{All-nil, All-cons, All-head, All-tail, All-drop, All-weaker}
use Rattle.plat_table.specs.Riders.{Rise, AreBehind}

pub Rise-low : (low high : ℕ) (xs : List ℕ) → Rise low high xs → low ≤ high
Rise-low low high [] r = r
Rise-low low high (x ∷ xs) r = let first = r.0 in let more = Rise-low (x + 1) high xs r.1 in omega (arith, first, more)

pub Rise-lower : (low lower high : ℕ) (xs : List ℕ) → lower ≤ low → Rise low high xs → Rise lower high xs
Rise-lower low lower high [] h r = omega (arith, h, r)
Rise-lower low lower high (x ∷ xs) h r = (let first = r.0 in omega (arith, h, first), r.1)

pub Rise-take : (k low high : ℕ) (xs : List ℕ) → Rise low high xs → Rise low high (take k xs)
Rise-take zero low high xs r = Rise-low low high xs r
Rise-take (suc k) low high [] r = r
Rise-take (suc k) low high (x ∷ xs) r = (r.0, Rise-take k (x + 1) high xs r.1)

pub Rise-drop : (k low high : ℕ) (xs : List ℕ) → Rise low high xs → Rise low high (drop k xs)
Rise-drop zero low high xs r = r
Rise-drop (suc k) low high [] r = r
Rise-drop (suc k) low high (x ∷ xs) r =
    Rise-lower (x + 1) low high (drop k xs) (let first = r.0 in omega (arith, first)) (Rise-drop k (x + 1) high xs r.1)

pub Rise-least : (low high : ℕ) (xs : List ℕ) → Rise low high xs → All (λ b. low ≤ b) xs
Rise-least low high [] r = All-nil (λ b. low ≤ b)
Rise-least low high (x ∷ xs) r =
    All-cons (λ b. low ≤ b) x xs r.0
    (All-weaker (λ b. x + 1 ≤ b) (λ b. low ≤ b) (λ b h. let first = r.0 in omega (arith, h, first)) xs (Rise-least (x + 1) high xs r.1))

pub behind-halves : (k low high : ℕ) (xs : List ℕ) → Rise low high xs → AreBehind (take k xs) (drop k xs)
behind-halves zero low high xs r = All-nil (λ a. All (λ b. a < b) xs)
behind-halves (suc k) low high [] r = All-nil (λ (a : ℕ). All (λ b. a < b) [])
behind-halves (suc k) low high (x ∷ xs) r =
    All-cons (λ a. All (λ b. a < b) (drop k xs)) x (take k xs)
    (All-drop (λ b. x < b) k xs
    (All-weaker (λ b. x + 1 ≤ b) (λ b. x < b) (λ b h. omega (arith, h)) xs (Rise-least (x + 1) high xs r.1)))
    (behind-halves k (x + 1) high xs r.1)

Rise-from : (low high : ℕ) (xs : List ℕ) → Rise 0 high xs → All (λ b. low ≤ b) xs → low ≤ high → Rise low high xs
Rise-from low high [] r l h = h
Rise-from low high (x ∷ xs) r l h = (All-head (λ b. low ≤ b) x xs l, r.1)

pub Rise-append :
    (low high : ℕ) (xs ys : List ℕ) → Rise low high xs → Rise 0 high ys → AreBehind xs ys → All (λ b. low ≤ b) ys → Rise low high (xs ++ ys)
Rise-append low high [] ys r s b l = Rise-from low high ys s l r
Rise-append low high (x ∷ xs) ys r s b l = (
  r.0,
  Rise-append (x + 1) high xs ys r.1 s (All-tail (λ a. All (λ b. a < b) ys) x xs b)
      (All-weaker (λ b. x < b) (λ b. x + 1 ≤ b) (λ b h. omega (arith, h)) ys (All-head (λ a. All (λ b. a < b) ys) x xs b)),
)

pub Rise-both : (high : ℕ) (xs ys : List ℕ) → Rise 0 high xs → Rise 0 high ys → AreBehind xs ys → Rise 0 high (xs ++ ys)
Rise-both high xs ys r s b = Rise-append 0 high xs ys r s b (Rise-least 0 high ys s)

pub Rise-length : (low high : ℕ) (xs : List ℕ) → Rise low high xs → low + length xs ≤ high
Rise-length low high [] r = omega (arith, r)
Rise-length low high (x ∷ xs) r = let first = r.0 in let more = Rise-length (x + 1) high xs r.1 in omega (arith, first, more)

-- as many as there can be are all of them
pub Rise-all : (low : ℕ) (xs : List ℕ) → Rise low (low + length xs) xs → xs ≡ range_with_len low (length xs)
Rise-all low [] r = refl
Rise-all low (x ∷ xs) r =
    let first = r.0 in
    let most = Rise-length (x + 1) (low + length (x ∷ xs)) xs r.1 in
    let same : x ≡ low = omega (arith, first, most) in
    let rest : Rise (low + 1) (low + 1 + length xs) xs =
    subst (λ n. Rise (low + 1) n xs) (omega arith) (subst (λ n. Rise (n + 1) (low + length (x ∷ xs)) xs) same r.1) in
    ap (λ n. n ∷ xs) same ∙ ap (λ ns. low ∷ ns) (Rise-all (low + 1) xs rest)

pub Rise-range : (low n : ℕ) → Rise low (low + n) (range_with_len low n)
Rise-range low zero = omega arith
Rise-range low (suc n) = (omega arith, subst (λ k. Rise (low + 1) k (range_with_len (low + 1) n)) (omega arith) (Rise-range (low + 1) n))
