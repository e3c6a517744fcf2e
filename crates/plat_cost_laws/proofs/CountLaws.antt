-- numbers below n of which each occurs at most b times are at most n * b
use Rattle.std.specs.Prelude.{◌≡◌, ◌⊎◌, ℕ, zero, suc, ◌+◌, ◌*◌, ◌<◌, ◌≤◌, ◌==◌, not, if◌then◌else◌, Bool, true, false, List, [], ◌∷◌}
use Rattle.std.specs.Prelude.{length, filter, All}
use Rattle.std.proofs.Common.{refl, sym, arith}
use Rattle.std.proofs.lemmas.Bool.Decides.{nat_tests}
use Rattle.std.proofs.lemmas.List.Elements.{All-nil, All-cons, All-head, All-tail}

-- how often a number occurs
unfoldable pub times : ℕ → List ℕ → ℕ
times n [] = 0
times n (x ∷ xs) = if x == n then suc (times n xs) else times n xs

-- the list without a number
without : ℕ → List ℕ → List ℕ
without n [] = []
without n (x ∷ xs) = if x == n then without n xs else x ∷ without n xs

length-without : (n : ℕ) (xs : List ℕ) → length xs ≡ times n xs + length (without n xs)
unfolding times without
length-without n [] = refl
length-without n (x ∷ xs) = grind (arith, nat_tests, length-without n xs)

times-without : (n k : ℕ) (xs : List ℕ) → times k (without n xs) ≤ times k xs
unfolding times without
times-without n k [] = omega arith
times-without n k (x ∷ xs) = grind (arith, nat_tests, times-without n k xs)

below-without : (n : ℕ) (xs : List ℕ) → All (λ x. x < suc n) xs → All (λ x. x < n) (without n xs)
unfolding without
below-without n [] h = All-nil (λ x. x < n)
below-without n (x ∷ xs) h =
    by (x == n) refl (All-head (λ x. x < suc n) x xs h) (below-without n xs (All-tail (λ x. x < suc n) x xs h))
  where
    by : (b : Bool) → (x == n) ≡ b → x < suc n → All (λ x. x < n) (without n xs)
        → All (λ x. x < n) (if b then without n xs else x ∷ without n xs)
    by true e l all = all
    by false e l all = All-cons (λ x. x < n) x (without n xs) (grind (arith, nat_tests)) all

nothing_below : (xs : List ℕ) → All (λ x. x < 0) xs → length xs ≡ 0
nothing_below [] h = refl
nothing_below (x ∷ xs) h = absurd (let l = All-head (λ x. x < 0) x xs h in omega arith)

pub few_each :
    (n b : ℕ) (xs : List ℕ) → All (λ x. x < n) xs → ((k : ℕ) → k < n → times k xs ≤ b) → length xs ≤ n * b
few_each zero b xs h few = let none = nothing_below xs h in omega arith
few_each (suc n) b xs h few =
    let rest = few_each n b (without n xs) (below-without n xs h)
    (λ k l. let less = times-without n k xs in let here = few k (omega arith) in omega arith) in
    let one = few n (omega arith) in
    let split = length-without n xs in
    let product : suc n * b ≡ b + n * b = omega arith in omega arith
