-- the numbers below a bound, one more at a time, and the first of them that passes a test
use Rattle.std.proofs.Common.{◌≡◌, ℕ, zero, suc, ◌+◌, ◌-◌, ◌<◌, ◌≤◌, Bool, true, false, ◌||◌, List, [], ◌∷◌, ◌++◌, length, Some}
use Rattle.std.proofs.Common.{ap, ◌∙◌, inl, inr, arith, length-append}
use Rattle.std.specs.Prelude.{find}
use Rattle.std.specs.List.{list_any, range_with_len}
use Rattle.std.proofs.lemmas.Bool.{cases_eq}
use Rattle.plat_base.specs.Pages.{numbers}
use Rattle.plat_base.proofs.ListLemmas.{range_with_len-split, numbers-more, list_any-push}

-- the numbers below a bound, and the others below a higher one
numbers-split : (n k : ℕ) → n ≤ k → numbers k ≡ numbers n ++ range_with_len n (k - n)
numbers-split n k above = range_with_len-split 0 n (k - n) n k (omega arith) (omega arith)

pub list_any_numbers-more : (test : ℕ → Bool) (n : ℕ) → list_any test (numbers (n + 1)) ≡ (list_any test (numbers n) || test n)
list_any_numbers-more test n = ap (list_any test) (numbers-more n) ∙ list_any-push test (numbers n) n

-- ---- a list that is made of each number's part

-- what a function makes of a list is what it makes of its parts
abbrev pub IsByParts : {X : Type 0} → (List ℕ → List X) → Type 0
IsByParts f = (xs ys : List ℕ) → f (xs ++ ys) ≡ f xs ++ f ys

pub by_parts-more : {X : Type 0} (f : List ℕ → List X) → IsByParts f → (n : ℕ) → f (numbers (n + 1)) ≡ f (numbers n) ++ f (n ∷ [])
by_parts-more f parts n = ap f (numbers-more n) ∙ parts (numbers n) (n ∷ [])

pub by_parts-length : {X : Type 0} (f : List ℕ → List X) → IsByParts f → (n k : ℕ) → n ≤ k → length (f (numbers n)) ≤ length (f (numbers k))
by_parts-length f parts n k above =
    omega (
      arith,
      ap (λ ns. length (f ns)) (numbers-split n k above),
      ap length (parts (numbers n) (range_with_len n (k - n))),
      length-append (f (numbers n)) (f (range_with_len n (k - n))),
    )

-- ---- the first number that passes

find_range_from : (test : ℕ → Bool) (a n i : ℕ) → ((k : ℕ) → a ≤ k → k < i → test k ≡ false) → a ≤ i → i < a + n → test i ≡ true →
    find test (range_with_len a n) ≡ Some i
find_range_from test a zero i before from within here = absurd (omega arith)
find_range_from test a (suc n) i before from within here =
    elim (cases_eq a i) [
      | inl same ↦ grind arith
      | inr differ ↦
          rw (before a (omega arith) (omega arith))
          (find_range_from test (a + 1) n i (λ k above below. before k (omega arith) below) (omega arith) (omega arith) here)
    ]

pub find_numbers_first : (test : ℕ → Bool) (n i : ℕ) → ((k : ℕ) → k < i → test k ≡ false) → i < n → test i ≡ true →
    find test (numbers n) ≡ Some i
find_numbers_first test n i before within here =
    find_range_from test 0 n i (λ k above below. before k below) (omega arith) (omega arith) here
