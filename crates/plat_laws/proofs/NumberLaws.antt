-- the numbers below a bound: what is found among them, and how many there are at least
use Rattle.std.proofs.Common.{◌≡◌, ℕ, zero, suc, ◌+◌, ◌<◌, ◌≤◌, Bool, true, false, not, List, [], ◌∷◌, length, filter, Option, Some, None}
use Rattle.std.proofs.Common.{arith}
use Rattle.std.specs.Prelude.{◌==◌, find}
use Rattle.std.specs.List.{list_any, range_with_len, filter_map}
use Rattle.std.proofs.lemmas.Bool.Decides.{nat_tests}
use Rattle.plat_base.specs.Pages.{numbers}

-- ---- the numbers from a bound on

find_range-none : (test : ℕ → Bool) (a k i : ℕ) → find test (range_with_len a k) ≡ None → a ≤ i → i < a + k → test i ≡ false
find_range-none test a zero i h l u = absurd (omega arith)
find_range-none test a (suc k) i h l u = grind (arith, nat_tests, find_range-none test (a + 1) k i)

find_range-some : (test : ℕ → Bool) (a k i : ℕ) → find test (range_with_len a k) ≡ Some i → (a ≤ i) × (i < a + k) × (test i ≡ true)
find_range-some test a zero i h = absurd cc
find_range-some test a (suc k) i h = grind (arith, nat_tests, find_range-some test (a + 1) k i)

list_any_range-true : (test : ℕ → Bool) (a k : ℕ) → list_any test (range_with_len a k) ≡ true → (i : ℕ) × (a ≤ i) × (i < a + k)
    × (test i ≡ true)
list_any_range-true test a zero h = absurd cc
list_any_range-true test a (suc k) h = grind (arith, nat_tests, list_any_range-true test (a + 1) k)

filter_map_range-none : {X : Type 0} (f : ℕ → Option X) (a k i : ℕ) → filter_map f (range_with_len a k) ≡ [] → a ≤ i → i < a + k →
    f i ≡ None
filter_map_range-none f a zero i h l u = absurd (omega arith)
filter_map_range-none f a (suc k) i h l u = grind (arith, nat_tests, filter_map_range-none f (a + 1) k i)

-- ---- the numbers below a bound

pub find_numbers-none : (test : ℕ → Bool) (k i : ℕ) → find test (numbers k) ≡ None → i < k → test i ≡ false
find_numbers-none test k i h l = find_range-none test 0 k i h (omega arith) (omega arith)

pub find_numbers-some : (test : ℕ → Bool) (k i : ℕ) → find test (numbers k) ≡ Some i → (i < k) × (test i ≡ true)
find_numbers-some test k i h = let r = find_range-some test 0 k i h in (omega arith, r.2)

pub list_any_numbers-true : (test : ℕ → Bool) (k : ℕ) → list_any test (numbers k) ≡ true → (i : ℕ) × (i < k) × (test i ≡ true)
list_any_numbers-true test k h = let r = list_any_range-true test 0 k h in (r.0, omega arith, r.3)

pub filter_map_numbers-none : {X : Type 0} (f : ℕ → Option X) (k i : ℕ) → filter_map f (numbers k) ≡ [] → i < k → f i ≡ None
filter_map_numbers-none f k i h l = filter_map_range-none f 0 k i h (omega arith) (omega arith)

-- ---- pigeons

-- the list without a number
without : ℕ → List ℕ → List ℕ
without n xs = filter (λ x. not (x == n)) xs

length-without : (n : ℕ) (xs : List ℕ) → length (without n xs) ≤ length xs
unfolding without
length-without n [] = omega arith
length-without n (x ∷ xs) = grind (arith, nat_tests, length-without n xs)

length-without_one : (n : ℕ) (xs : List ℕ) → list_any (λ x. x == n) xs ≡ true → length (without n xs) < length xs
unfolding without
length-without_one n [] h = absurd cc
length-without_one n (x ∷ xs) h = grind (arith, nat_tests, length-without n xs, length-without_one n xs)

list_any-without : (n i : ℕ) (xs : List ℕ) → i < n → list_any (λ x. x == i) xs ≡ true → list_any (λ x. x == i) (without n xs) ≡ true
unfolding without
list_any-without n i [] l h = absurd cc
list_any-without n i (x ∷ xs) l h = grind (arith, nat_tests, list_any-without n i xs l)

-- a list in which each number below k occurs has that many places
pub pigeon : (k : ℕ) (xs : List ℕ) → ((i : ℕ) → i < k → list_any (λ x. x == i) xs ≡ true) → k ≤ length xs
pigeon zero xs h = omega arith
pigeon (suc k) xs h =
    let before : k ≤ length (without k xs) = pigeon k (without k xs) (λ i l. list_any-without k i xs l (h i (omega arith))) in
    let fewer : length (without k xs) < length xs = length-without_one k xs (h k (omega arith)) in
    omega arith

-- ---- functions that give each number below a bound somewhere

given_range : (f : ℕ → Option ℕ) (a k j i : ℕ) → a ≤ j → j < a + k → f j ≡ Some i →
    list_any (λ x. x == i) (filter_map f (range_with_len a k)) ≡ true
given_range f a zero j i l u h = absurd (omega arith)
given_range f a (suc k) j i l u h = grind (arith, nat_tests, given_range f (a + 1) k j i)

length-given : (f : ℕ → Option ℕ) (a k : ℕ) → length (filter_map f (range_with_len a k)) ≤ k
length-given f a zero = omega arith
length-given f a (suc k) = grind (arith, nat_tests, length-given f (a + 1) k)

length-given_less : (f : ℕ → Option ℕ) (a k j : ℕ) → a ≤ j → j < a + k → f j ≡ None → length (filter_map f (range_with_len a k)) < k
length-given_less f a zero j l u h = absurd (omega arith)
length-given_less f a (suc k) j l u h = grind (arith, nat_tests, length-given f (a + 1) k, length-given_less f (a + 1) k j)

-- each number below k is given by a place below n, and one of those places gives none: so there are more places
pub pigeon-holes : (f : ℕ → Option ℕ) (k n p : ℕ) → ((i : ℕ) → i < k → (j : ℕ) × (j < n) × (f j ≡ Some i)) → p < n → f p ≡ None → k < n
pigeon-holes f k n p h l e =
    let here : k ≤ length (filter_map f (numbers n)) =
    pigeon k (filter_map f (numbers n)) (λ i u. let w = h i u in given_range f 0 n w.0 i (omega arith) (omega (arith, w.1)) w.2) in
    let fewer : length (filter_map f (numbers n)) < n = length-given_less f 0 n p (omega arith) (omega arith) e in
    omega arith
