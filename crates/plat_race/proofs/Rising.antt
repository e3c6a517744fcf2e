-- lists of numbers that rise: which numbers they have, what a filter keeps of them, and that their numbers make them one
use Rattle.std.specs.Prelude.{◌≡◌, ◌⊎◌, ℕ, zero, suc, ◌+◌, ◌<◌, ◌≤◌, if◌then◌else◌, Bool, true, false, List, [], ◌∷◌, ◌++◌, length, filter}
use Rattle.std.specs.Prelude.{AllPairs, Contains, refl}
use Rattle.std.specs.List.{range_with_len}
use Rattle.std.proofs.Common.{ap, sym, ◌∙◌, inl, inr, arith, ⊎_elim, subst, get_or}
use Rattle.std.proofs.lemmas.Bool.{true≢false}

-- ---- membership and order, by recursion

-- the list has the number
abbrev pub Has : List ℕ → ℕ → Type 0
Has [] n = ⊥
Has (x ∷ xs) n = (x ≡ n) ⊎ Has xs n

pub has-contained : (xs : List ℕ) (n : ℕ) → Contains xs n → Has xs n
has-contained [] n (k, l, e) = absurd (omega arith)
has-contained (x ∷ xs) n (zero, l, e) = inl e
has-contained (x ∷ xs) n (suc k, l, e) = inr (has-contained xs n (k, omega arith, e))

contained-has : (xs : List ℕ) (n : ℕ) → Has xs n → (k : ℕ) × (k < length xs) × ((d : ℕ) → get_or xs k d ≡ n)
contained-has [] n h = absurd h
contained-has (x ∷ xs) n (inl e) = (0, omega arith, λ d. e)
contained-has (x ∷ xs) n (inr h) = let r = contained-has xs n h in (suc r.0, (let l = r.1 in omega arith), r.2)

pub has-append : (xs ys : List ℕ) (n : ℕ) → Has (xs ++ ys) n → Has xs n ⊎ Has ys n
has-append [] ys n h = inr h
has-append (x ∷ xs) ys n (inl e) = inl (inl e)
has-append (x ∷ xs) ys n (inr h) = ⊎_elim (λ a. inl (inr a)) (λ b. inr b) (has-append xs ys n h)

has-left : (xs ys : List ℕ) (n : ℕ) → Has xs n → Has (xs ++ ys) n
has-left [] ys n h = absurd h
has-left (x ∷ xs) ys n (inl e) = inl e
has-left (x ∷ xs) ys n (inr h) = inr (has-left xs ys n h)

has-right : (xs ys : List ℕ) (n : ℕ) → Has ys n → Has (xs ++ ys) n
has-right [] ys n h = h
has-right (x ∷ xs) ys n h = inr (has-right xs ys n h)

filter_step :
    (test : ℕ → Bool) (x : ℕ) (xs kept : List ℕ) (n : ℕ) (b : Bool) → test x ≡ b → (Has kept n → Has xs n × (test n ≡ true))
    → Has (if b then x ∷ kept else kept) n → Has (x ∷ xs) n × (test n ≡ true)
filter_step test x xs kept n true e rest (inl same) = (inl same, rw (← same) e)
filter_step test x xs kept n true e rest (inr h) = let r = rest h in (inr r.0, r.1)
filter_step test x xs kept n false e rest h = let r = rest h in (inr r.0, r.1)

-- what a filter keeps
pub has-filter : (test : ℕ → Bool) (xs : List ℕ) (n : ℕ) → Has (filter test xs) n → Has xs n × (test n ≡ true)
has-filter test [] n h = absurd h
has-filter test (x ∷ xs) n h = filter_step test x xs (filter test xs) n (test x) refl (has-filter test xs n) h

keep_step :
    (test : ℕ → Bool) (x : ℕ) (xs kept : List ℕ) (n : ℕ) (b : Bool) → test x ≡ b → (Has xs n → Has kept n) → test n ≡ true → Has (x ∷ xs) n
    → Has (if b then x ∷ kept else kept) n
keep_step test x xs kept n true e rest t (inl same) = inl same
keep_step test x xs kept n true e rest t (inr h) = inr (rest h)
keep_step test x xs kept n false e rest t (inl same) = absurd (true≢false (sym t ∙ (ap test (sym same) ∙ e)))
keep_step test x xs kept n false e rest t (inr h) = rest h

pub filter-has : (test : ℕ → Bool) (xs : List ℕ) (n : ℕ) → test n ≡ true → Has xs n → Has (filter test xs) n
filter-has test [] n t h = h
filter-has test (x ∷ xs) n t h = keep_step test x xs (filter test xs) n (test x) refl (filter-has test xs n t) t h

-- each pair of a list, the earlier number first
abbrev pub EachPair : (ℕ → ℕ → Type 0) → List ℕ → Type 0
EachPair R [] = Unit {0}
EachPair R (x ∷ xs) = ((n : ℕ) → Has xs n → R x n) × EachPair R xs

pub each-pairs : (R : ℕ → ℕ → Type 0) (xs : List ℕ) → AllPairs R xs → EachPair R xs
each-pairs R [] h = tt
each-pairs R (x ∷ xs) h = (
  (λ n has. let r = contained-has xs n has in subst (R x) (r.2 0) (h 0 (suc r.0) 0 (omega arith) (let l = r.1 in omega arith))),
  each-pairs R xs (λ i j d l k. h (suc i) (suc j) d (omega arith) (omega arith)),
)

module _ (R : ℕ → ℕ → Type 0) where
  pub pairs-front : (xs ys : List ℕ) → EachPair R (xs ++ ys) → EachPair R xs
  pairs-front [] ys h = tt
  pairs-front (x ∷ xs) ys h = ((λ n has. h.0 n (has-left xs ys n has)), pairs-front xs ys h.1)

  pub pair-before : (xs ys : List ℕ) (j k : ℕ) → EachPair R (xs ++ j ∷ ys) → Has xs k → R k j
  pair-before [] ys j k h has = absurd has
  pair-before (x ∷ xs) ys j k h (inl same) = subst (λ (q : ℕ). R q j) same (h.0 j (has-right xs (j ∷ ys) j (inl refl)))
  pair-before (x ∷ xs) ys j k h (inr has) = pair-before xs ys j k h.1 has

  pub pair-after : (xs ys : List ℕ) (j k : ℕ) → EachPair R (xs ++ j ∷ ys) → Has ys k → R j k
  pair-after [] ys j k h has = h.0 k has
  pair-after (x ∷ xs) ys j k h has = pair-after xs ys j k h.1 has

  -- the kept numbers of a list rise where each kept pair does
  rise_step :
      (test : ℕ → Bool) (x : ℕ) (xs : List ℕ) (b : Bool) → test x ≡ b → ((a c : ℕ) → R a c → test a ≡ true → test c ≡ true → a < c)
      → ((n : ℕ) → Has xs n → R x n) → EachPair (λ a c. a < c) (filter test xs)
      → EachPair (λ a c. a < c) (if b then x ∷ filter test xs else filter test xs)
  rise_step test x xs true e less head rest = ((λ n has. let r = has-filter test xs n has in less x n (head n r.0) e r.1), rest)
  rise_step test x xs false e less head rest = rest

  pub rising-filter :
      (test : ℕ → Bool) (xs : List ℕ) → ((a c : ℕ) → R a c → test a ≡ true → test c ≡ true → a < c) → EachPair R xs
      → EachPair (λ a c. a < c) (filter test xs)
  rising-filter test [] less h = tt
  rising-filter test (x ∷ xs) less h = rise_step test x xs (test x) refl less h.0 (rising-filter test xs less h.1)

-- rising lists of the same numbers are one list
pub same_rising :
    (xs ys : List ℕ) → EachPair (λ a c. a < c) xs → EachPair (λ a c. a < c) ys → ((n : ℕ) → Has xs n → Has ys n) → ((n : ℕ) → Has ys n
    → Has xs n)
    → xs ≡ ys
same_rising [] [] rx ry f g = refl
same_rising [] (y ∷ ys) rx ry f g = absurd (g y (inl refl))
same_rising (x ∷ xs) [] rx ry f g = absurd (f x (inl refl))
same_rising (x ∷ xs) (y ∷ ys) rx ry f g =
    let same : x ≡ y = heads (f x (inl refl)) (g y (inl refl))
    in cons same
    (same_rising xs ys rx.1 ry.1
    (λ n has. ⊎_elim (λ (e : y ≡ n). absurd (let less = rx.0 n has in omega arith)) (λ (h : Has ys n). h) (f n (inr has)))
    (λ n has. ⊎_elim (λ (e : x ≡ n). absurd (let less = ry.0 n has in omega arith)) (λ (h : Has xs n). h) (g n (inr has))))
  where
    heads : (y ≡ x) ⊎ Has ys x → (x ≡ y) ⊎ Has xs y → x ≡ y
    heads (inl e) k = sym e
    heads (inr h) (inl e) = e
    heads (inr h) (inr k) = absurd (let less = ry.0 x h in let more = rx.0 y k in omega arith)

    cons : x ≡ y → xs ≡ ys → (x ∷ xs) ≡ (y ∷ ys)
    cons e k = rw (e, k) refl

-- ---- the numbers below a bound

pub has-range : (a n k : ℕ) → Has (range_with_len a n) k → (a ≤ k) × (k < a + n)
has-range a zero k h = absurd h
has-range a (suc n) k (inl e) = (omega arith, omega arith)
has-range a (suc n) k (inr h) = let r = has-range (a + 1) n k h in (omega (arith, r.0), omega (arith, r.1))

pub range-has : (a n k : ℕ) → a ≤ k → k < a + n → Has (range_with_len a n) k
range-has a zero k l u = absurd (omega arith)
range-has a (suc n) k l u =
    ⊎_elim (λ (e : a ≡ k). inl e) (λ (above : a < k). inr (range-has (a + 1) n k (omega arith) (omega arith))) (cases a k l)
  where
    cases : (a k : ℕ) → a ≤ k → (a ≡ k) ⊎ (a < k)
    cases a k l = grind arith

pub rising-range : (a n : ℕ) → EachPair (λ a c. a < c) (range_with_len a n)
rising-range a zero = tt
rising-range a (suc n) = ((λ k has. let r = has-range (a + 1) n k has in omega (arith, r.0)), rising-range (a + 1) n)
