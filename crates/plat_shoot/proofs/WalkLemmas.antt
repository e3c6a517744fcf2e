-- numbers that a loop goes past
use Rattle.std.proofs.Common.{◌≡◌, ℕ, zero, suc, ◌+◌, ◌-◌, ◌<◌, ◌≤◌, Bool, true, false, List, [], ◌∷◌, filter, Some, refl}
use Rattle.std.proofs.Common.{ap, ◌∙◌, arith}
use Rattle.std.specs.Prelude.{slice_get}
use Rattle.std.specs.List.{range_with_len}

-- ---- the numbers below n that pass a test, from k on

abbrev pub rest_from : (ℕ → Bool) → (n k : ℕ) → List ℕ
rest_from p n k = filter p (range_with_len k (n - k))

pub rest_from-next : (p : ℕ → Bool) (n k : ℕ) → k < n → p k ≡ true → rest_from p n k ≡ k ∷ rest_from p n (k + 1)
rest_from-next p n k h t = let e : n - k ≡ suc (n - (k + 1)) = omega arith in rw (e, t) refl

pub rest_from-past : (p : ℕ → Bool) (n k : ℕ) → k < n → p k ≡ false → rest_from p n k ≡ rest_from p n (k + 1)
rest_from-past p n k h t = let e : n - k ≡ suc (n - (k + 1)) = omega arith in rw (e, t) refl

pub rest_from-end : (p : ℕ → Bool) (n k : ℕ) → n ≤ k → rest_from p n k ≡ []
rest_from-end p n k h = let e : n - k ≡ 0 = omega arith in rw e refl

-- ---- a place of a list that is passed one by one

pub at_next : {T : Type 0} (all xs : List T) (x : T) (at left : ℕ) → slice_get all at ≡ slice_get (x ∷ xs) left → (left ≡ 0 → ⊥) →
    slice_get all at ≡ slice_get xs (left - 1)
at_next all xs x at zero e h = absurd (h refl)
at_next all xs x at (suc left) e h = e ∙ ap (λ (n : ℕ). slice_get xs n) (omega arith)

pub at_first : {T : Type 0} (all xs : List T) (x : T) (at left : ℕ) → slice_get all at ≡ slice_get (x ∷ xs) left → left ≡ 0 →
    slice_get all at ≡ Some x
at_first all xs x at left e h = e ∙ ap (λ (n : ℕ). slice_get (x ∷ xs) n) h
