-- what std lacks of lists, and of the numbers below one
use Rattle.std.proofs.Common.{◌≡◌, ℕ, zero, suc, ◌+◌, ◌<◌, ◌≤◌, Bool, true, false, ◌||◌, List, [], ◌∷◌, ◌++◌, length, filter}
use Rattle.std.proofs.Common.{Option, Some, None, refl, ap, ◌∙◌, arith, ⊎_elim, ◌⊎◌}
use Rattle.std.specs.Prelude.{find, slice_get}
use Rattle.std.specs.List.{list_any, list_all, filter_map, range_with_len, AllByRecursion}
use Rattle.std.proofs.lemmas.Bool.{and_parts, and_from}
use Rattle.std.proofs.lemmas.Bool.Decides.{nat_tests}
use Rattle.std.proofs.lemmas.List.{append-nil}
use Rattle.plat_base.specs.Pages.{numbers}

-- ---- numbers in a row

pub range-more : (a n : ℕ) → range_with_len a (suc n) ≡ range_with_len a n ++ (a + n) ∷ []
range-more a zero = ap (λ (k : ℕ). k ∷ []) (omega arith)
range-more a (suc n) =
    ap (λ (ks : List ℕ). a ∷ ks) (range-more (a + 1) n ∙ ap (λ (k : ℕ). range_with_len (a + 1) n ++ k ∷ []) (omega arith))

pub range_with_len-split : (a n k b all : ℕ) → b ≡ a + n → all ≡ n + k → range_with_len a all ≡ range_with_len a n ++ range_with_len b k
range_with_len-split a zero k b all start sum = grind arith
range_with_len-split a (suc n) k b zero start sum = absurd (omega arith)
range_with_len-split a (suc n) k b (suc all) start sum = grind (arith, range_with_len-split (a + 1) n k b all)

pub numbers-more : (n : ℕ) → numbers (n + 1) ≡ numbers n ++ n ∷ []
numbers-more n = range_with_len-split 0 n 1 n (n + 1) (omega arith) (omega arith)

pub find-range_none : (test : ℕ → Bool) (a n : ℕ) → ((i : ℕ) → a ≤ i → i < a + n → test i ≡ false) →
    find test (range_with_len a n) ≡ None
find-range_none test a zero h = refl
find-range_none test a (suc n) h =
    rw (h a (omega arith) (omega arith)) (find-range_none test (a + 1) n (λ i l k. h i (omega arith) (omega arith)))

pub find-numbers_none : (test : ℕ → Bool) (n : ℕ) → ((i : ℕ) → i < n → test i ≡ false) → find test (numbers n) ≡ None
find-numbers_none test n none = find-range_none test 0 n (λ i low high. none i (omega arith))

pub find-range_first : (test : ℕ → Bool) (a n k : ℕ) → a ≤ k → k < a + n → test k ≡ true →
    ((i : ℕ) → a ≤ i → i < k → test i ≡ false) → find test (range_with_len a n) ≡ Some k
find-range_first test a zero k l u h none = absurd (omega arith)
find-range_first test a (suc n) k l u h none =
    ⊎_elim
    (λ (here : a ≡ k). let t : test a ≡ true = rw here h in rw t (ap Some here))
    (λ (later : a < k). let t : test a ≡ false = none a (omega arith) later
    in rw t (find-range_first test (a + 1) n k (omega arith) (omega arith) h (λ i low high. none i (omega arith) high)))
    (cases a k l)
  where
    cases : (a k : ℕ) → a ≤ k → (a ≡ k) ⊎ (a < k)
    cases a k l = grind arith

pub any-range : (test : ℕ → Bool) (a n i : ℕ) → a ≤ i → i < a + n → test i ≡ true → list_any test (range_with_len a n) ≡ true
any-range test a zero i l u h = absurd (omega arith)
any-range test a (suc n) i l u h = grind (arith, nat_tests, any-range test (a + 1) n i)

pub any-numbers : (test : ℕ → Bool) (n i : ℕ) → i < n → test i ≡ true → list_any test (numbers n) ≡ true
any-numbers test n i l h = any-range test 0 n i (omega arith) (omega arith) h

-- ---- lists that are filtered

pub length-filter : (test : ℕ → Bool) (xs : List ℕ) → length (filter test xs) ≤ length xs
length-filter test [] = omega arith
length-filter test (x ∷ xs) = grind (arith, nat_tests, length-filter test xs)

filter-more : (p : ℕ → Bool) (a n : ℕ) → filter p (range_with_len a (n + 1)) ≡ filter p (range_with_len a n) ++ filter p ((a + n) ∷ [])
filter-more p a zero = ap (λ (k : ℕ). filter p (k ∷ [])) (omega arith)
filter-more p a (suc n) = grind (arith, filter-more p (a + 1) n)

passed : (p : ℕ → Bool) (k n : ℕ) → k ≡ n → p n ≡ true → filter p (k ∷ []) ≡ n ∷ []
passed p k n e h = ap (λ (i : ℕ). filter p (i ∷ [])) e ∙ rw h refl

failed : (p : ℕ → Bool) (k n : ℕ) → k ≡ n → p n ≡ false → filter p (k ∷ []) ≡ []
failed p k n e h = ap (λ (i : ℕ). filter p (i ∷ [])) e ∙ rw h refl

pub filter-passes : (p : ℕ → Bool) (n : ℕ) → p n ≡ true → filter p (numbers (n + 1)) ≡ filter p (numbers n) ++ n ∷ []
filter-passes p n h =
    filter-more p 0 n ∙ ap (λ (ys : List ℕ). filter p (numbers n) ++ ys) (passed p (0 + n) n (omega arith) h)

pub filter-fails : (p : ℕ → Bool) (n : ℕ) → p n ≡ false → filter p (numbers (n + 1)) ≡ filter p (numbers n)
filter-fails p n h =
    filter-more p 0 n
    ∙ ap (λ (ys : List ℕ). filter p (numbers n) ++ ys) (failed p (0 + n) n (omega arith) h)
    ∙ append-nil (filter p (numbers n))

-- what nothing is made of may be left out before
pub filter_map-filter : {A B : Type 0} (f : A → Option B) (p : A → Bool) → ((x : A) → p x ≡ false → f x ≡ None) → (xs : List A) →
    filter_map f (filter p xs) ≡ filter_map f xs
filter_map-filter f p h [] = refl
filter_map-filter f p h (x ∷ xs) = one (p x) refl (filter_map-filter f p h xs)
  where
    one : (b : Bool) → p x ≡ b → filter_map f (filter p xs) ≡ filter_map f xs → filter_map f (filter p (x ∷ xs)) ≡ filter_map f (x ∷ xs)
    one true e more = rw (e, more) refl
    one false e more = rw (e, h x e, more) refl

-- ---- ends of lists, and what holds at each place

pub list_any-push : {A : Type 0} (f : A → Bool) (xs : List A) (x : A) → list_any f (xs ++ x ∷ []) ≡ (list_any f xs || f x)
list_any-push f [] x = grind (arith, nat_tests)
list_any-push f (y ∷ ys) x = grind (arith, nat_tests, list_any-push f ys x)

pub slice_get-append : {A : Type 0} (xs ys : List A) (i : ℕ) (x : A) → slice_get xs i ≡ Some x → slice_get (xs ++ ys) i ≡ Some x
slice_get-append [] ys i x h = absurd cc
slice_get-append (a ∷ xs) ys zero x h = h
slice_get-append (a ∷ xs) ys (suc i) x h = slice_get-append xs ys i x h

pub all-passed : {A : Type 0} {P : A → Type 0} (p : A → Bool) → ((x : A) → p x ≡ true → P x) → (xs : List A) → list_all p xs ≡ true →
    AllByRecursion P xs
all-passed p f [] h = tt
all-passed p f (x ∷ xs) h = let parts = and_parts (p x) (list_all p xs) h in (f x parts.0, all-passed p f xs parts.1)

pub all-from : {A : Type 0} (p : A → Bool) (xs : List A) → AllByRecursion (λ x. p x ≡ true) xs → list_all p xs ≡ true
all-from p [] h = refl
all-from p (x ∷ xs) h = and_from (p x) (list_all p xs) h.0 (all-from p xs h.1)
