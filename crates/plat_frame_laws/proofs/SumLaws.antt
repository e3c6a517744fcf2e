-- sums over the numbers below a bound: one summand is another, and a sum of 1 has one summand
use Rattle.std.specs.Prelude.{◌≡◌, ◌≢◌, ◌⊎◌, ℕ, zero, suc, ◌+◌, ◌<◌, ◌≤◌}
use Rattle.std.proofs.Common.{refl, ap, inl, inr, arith}
use Rattle.std.specs.List.{sum_by, range_with_len}
use Rattle.std.proofs.lemmas.Bool.{cases_eq}
use Rattle.std.proofs.lemmas.List.Sums.{sum_by-cons}
use Rattle.plat_base.specs.Pages.{numbers}

pub first : (f : ℕ → ℕ) (a n : ℕ) → sum_by f (range_with_len a (suc n)) ≡ f a + sum_by f (range_with_len (a + 1) n)
first f a n = sum_by-cons f a (range_with_len (a + 1) n)

-- a number from a on is a, or one from a + 1 on
from_either : (a p : ℕ) → a ≤ p → (p ≡ a) ⊎ (a + 1 ≤ p)
from_either a p low = by (cases_eq p a)
  where
    by : (p ≡ a) ⊎ (p ≢ a) → (p ≡ a) ⊎ (a + 1 ≤ p)
    by (inl e) = inl e
    by (inr n) = inr (omega arith)

range-same :
    (g h : ℕ → ℕ) (a n : ℕ) → ((p : ℕ) → a ≤ p → p < a + n → g p ≡ h p) →
    sum_by g (range_with_len a n) ≡ sum_by h (range_with_len a n)
range-same g h a zero same = refl
range-same g h a (suc n) same =
    let here : g a ≡ h a = same a (omega arith) (omega arith) in
    let rest = range-same g h (a + 1) n (λ p low high. same p (omega arith) (omega arith)) in
    omega (arith, first g a n, first h a n, here, rest)

range-one :
    (g h : ℕ → ℕ) (a n p : ℕ) → a ≤ p → p < a + n → ((q : ℕ) → a ≤ q → q < a + n → q ≢ p → g q ≡ h q) →
    sum_by g (range_with_len a n) + h p ≡ sum_by h (range_with_len a n) + g p
range-one g h a zero p low high same = absurd (omega arith)
range-one g h a (suc n) p low high same =
    by (from_either a p low) (λ more. range-one g h (a + 1) n p more (omega arith) (λ q l k apart. same q (omega arith) (omega arith)
    apart))
  where
    by :
        (p ≡ a) ⊎ (a + 1 ≤ p) →
        (a + 1 ≤ p → sum_by g (range_with_len (a + 1) n) + h p ≡ sum_by h (range_with_len (a + 1) n) + g p) →
        sum_by g (range_with_len a (suc n)) + h p ≡ sum_by h (range_with_len a (suc n)) + g p
    by (inl e) more =
        let rest = range-same g h (a + 1) n (λ q l k. same q (omega arith) (omega arith) (omega arith)) in
        omega (arith, first g a n, first h a n, rest, ap g e, ap h e)
    by (inr above) more =
        let here : g a ≡ h a = same a (omega arith) (omega arith) (omega arith) in
        omega (arith, first g a n, first h a n, here, more above)

range-at : (h : ℕ → ℕ) (a n p : ℕ) → a ≤ p → p < a + n → h p ≤ sum_by h (range_with_len a n)
range-at h a zero p low high = absurd (omega arith)
range-at h a (suc n) p low high = by (from_either a p low) (λ more. range-at h (a + 1) n p more (omega arith))
  where
    by :
        (p ≡ a) ⊎ (a + 1 ≤ p) → (a + 1 ≤ p → h p ≤ sum_by h (range_with_len (a + 1) n)) → h p ≤ sum_by h (range_with_len a (suc n))
    by (inl e) more = omega (arith, first h a n, ap h e)
    by (inr above) more = omega (arith, first h a n, more above)

range-two :
    (h : ℕ → ℕ) (a n p q : ℕ) → a ≤ p → p < q → q < a + n → h p + h q ≤ sum_by h (range_with_len a n)
range-two h a zero p q low apart high = absurd (omega arith)
range-two h a (suc n) p q low apart high =
    by (from_either a p low) (λ more. range-two h (a + 1) n p q more apart (omega arith))
  where
    by :
        (p ≡ a) ⊎ (a + 1 ≤ p) → (a + 1 ≤ p → h p + h q ≤ sum_by h (range_with_len (a + 1) n)) →
        h p + h q ≤ sum_by h (range_with_len a (suc n))
    by (inl e) more = let there = range-at h (a + 1) n q (omega arith) (omega arith) in omega (arith, first h a n, ap h e, there)
    by (inr above) more = omega (arith, first h a n, more above)

range-some :
    (h : ℕ → ℕ) (a n : ℕ) → 0 < sum_by h (range_with_len a n) → (p : ℕ) × (p < a + n) × (0 < h p)
range-some h a zero some = absurd (omega arith)
range-some h a (suc n) some = by (h a) refl (λ more. range-some h (a + 1) n more)
  where
    by :
        (k : ℕ) → h a ≡ k → (0 < sum_by h (range_with_len (a + 1) n) → (p : ℕ) × (p < a + 1 + n) × (0 < h p)) →
        (p : ℕ) × (p < a + suc n) × (0 < h p)
    by zero e more =
        let there = more (omega (arith, first h a n)) in (there.0, omega (arith, there.1), there.2)
    by (suc k) e more = (a, omega arith, omega arith)

-- ---- over all numbers below n

pub sum-same : (g h : ℕ → ℕ) (n : ℕ) → ((p : ℕ) → p < n → g p ≡ h p) → sum_by g (numbers n) ≡ sum_by h (numbers n)
sum-same g h n same = range-same g h 0 n (λ p low high. same p (omega arith))

-- one summand is another
pub sum-one :
    (g h : ℕ → ℕ) (n p : ℕ) → p < n → ((q : ℕ) → q < n → q ≢ p → g q ≡ h q) → sum_by g (numbers n) + h p ≡ sum_by h (numbers n) + g p
sum-one g h n p within same = range-one g h 0 n p (omega arith) (omega arith) (λ q low high apart. same q (omega arith) apart)

pub sum-at : (h : ℕ → ℕ) (n p : ℕ) → p < n → h p ≤ sum_by h (numbers n)
sum-at h n p within = range-at h 0 n p (omega arith) (omega arith)

pub sum-two : (h : ℕ → ℕ) (n p q : ℕ) → p < n → q < n → p ≢ q → h p + h q ≤ sum_by h (numbers n)
sum-two h n p q p_within q_within apart = by (cases_order p q apart)
  where
    cases_order : (i j : ℕ) → i ≢ j → (i < j) ⊎ (j < i)
    cases_order i j other = grind arith

    by : (p < q) ⊎ (q < p) → h p + h q ≤ sum_by h (numbers n)
    by (inl below) = range-two h 0 n p q (omega arith) below (omega arith)
    by (inr above) = let two = range-two h 0 n q p (omega arith) above (omega arith) in omega (arith, two)

-- a sum that is not 0 has a summand that is not
pub sum-some : (h : ℕ → ℕ) (n : ℕ) → 0 < sum_by h (numbers n) → (p : ℕ) × (p < n) × (0 < h p)
sum-some h n some = let there = range-some h 0 n some in (there.0, omega (arith, there.1), there.2)
