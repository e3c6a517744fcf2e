-- single bits of a word: after a bit is set or cleared, in a field, and how large a number with few bits is
use Rattle.std.proofs.Common.{◌≡◌, ℕ, zero, suc, ◌+◌, ◌-◌, ◌*◌, ◌/◌, ◌%◌, ◌^◌, ◌<◌, ◌≤◌, min, max, Bool, true, false, List, ◌++◌, map, refl}
use Rattle.std.proofs.Common.{inl, inr, ap, sym, ◌∙◌, arith}
use Rattle.std.specs.Prelude.{◌==◌, ◌&&◌, ◌||◌, not, bit_and, bit_or, ◌≢◌}
use Rattle.std.specs.Int.{bit_at, w64}
use Rattle.std.specs.List.{range_with_len}
use Rattle.std.proofs.lemmas.Bool.Decides.{nat_tests}
use Rattle.std.proofs.lemmas.Bool.{cases_eq, cases_lt}
use Rattle.std.proofs.Math.Nat.{pow-suc}
use Rattle.std.proofs.lemmas.Nat.{shr-shr, shr_split, pow_pos, mod_below}
use Rattle.std.proofs.lemmas.Nat.Bits.{bit_at_and, bit_at_or, bit_at-pow_same, bit_at-pow_other, bit_at_not, bit_at-lt, bit_at_above}
use Rattle.std.proofs.lemmas.Nat.Bits.{same_from_bits, bit_at-zero, bit_at_cat_low}
use Rattle.plat_events.specs.Words.{Field, packed, has_bit, bits_from, bit_if, all_but}
use Rattle.plat_words.proofs.Fields.{packed_behind, packed_first}

-- ---- one bit

has_bit-pow_same : (k : ℕ) → has_bit (2 ^ k) k ≡ true
has_bit-pow_same k = ap (λ b. b == 1) (bit_at-pow_same k)

has_bit-pow_other : (k i : ℕ) → i ≢ k → has_bit (2 ^ k) i ≡ false
has_bit-pow_other k i h = ap (λ b. b == 1) (bit_at-pow_other k i h)

has_bit-pow_at : (k i : ℕ) → i ≡ k → has_bit (2 ^ k) i ≡ true
has_bit-pow_at k i e = ap (λ j. has_bit (2 ^ k) j) e ∙ has_bit-pow_same k

pub has_bit-pow : (k i : ℕ) → has_bit (2 ^ k) i ≡ (i == k)
has_bit-pow k i =
    elim (cases_eq i k) [
      | inl e ↦ let same : (i == k) ≡ true = grind (arith, nat_tests) in has_bit-pow_at k i e ∙ sym same
      | inr e ↦ let other : (i == k) ≡ false = grind (arith, nat_tests) in has_bit-pow_other k i e ∙ sym other
    ]

bit_or-tests : (a b : ℕ) → a < 2 → b < 2 → (max a b == 1) ≡ ((a == 1) || (b == 1))
bit_or-tests a b h k = grind (arith, nat_tests)

pub has_bit-or : (a b i : ℕ) → has_bit (bit_or a b) i ≡ (has_bit a i || has_bit b i)
has_bit-or a b i = ap (λ x. x == 1) (bit_at_or a b i) ∙ bit_or-tests (bit_at a i) (bit_at b i) (bit_at-lt a i) (bit_at-lt b i)

bit_and-tests : (a b : ℕ) → a < 2 → b < 2 → (min a b == 1) ≡ ((a == 1) && (b == 1))
bit_and-tests a b h k = grind (arith, nat_tests)

pub has_bit-and : (a b i : ℕ) → has_bit (bit_and a b) i ≡ (has_bit a i && has_bit b i)
has_bit-and a b i = ap (λ x. x == 1) (bit_at_and a b i) ∙ bit_and-tests (bit_at a i) (bit_at b i) (bit_at-lt a i) (bit_at-lt b i)

pub not-test : (a : ℕ) → a < 2 → (1 - a == 1) ≡ not (a == 1)
not-test a h = grind (arith, nat_tests)

pub has_bit-all_but : (b i : ℕ) → b < 2 ^ 64 → i < 64 → has_bit (all_but b) i ≡ not (has_bit b i)
has_bit-all_but b i h k = ap (λ x. x == 1) (bit_at_not w64 b i h k) ∙ not-test (bit_at b i) (bit_at-lt b i)

-- a bit is set
pub has_bit-set : (n k i : ℕ) → has_bit (bit_or n (2 ^ k)) i ≡ (has_bit n i || i == k)
has_bit-set n k i = has_bit-or n (2 ^ k) i ∙ ap (λ b. has_bit n i || b) (has_bit-pow k i)

-- bits are cleared
pub has_bit-cleared : (n b i : ℕ) → b < 2 ^ 64 → i < 64 → has_bit (bit_and n (all_but b)) i ≡ (has_bit n i && not (has_bit b i))
has_bit-cleared n b i h k = has_bit-and n (all_but b) i ∙ ap (λ x. has_bit n i && x) (has_bit-all_but b i h k)

-- ---- a number by its bits

pub has_bit-above : (n k i : ℕ) → n < 2 ^ k → k ≤ i → has_bit n i ≡ false
has_bit-above n k i h l = ap (λ b. b == 1) (bit_at_above n k i h l)

pub no_bit : (n i : ℕ) → has_bit n i ≡ false → bit_at n i ≡ 0
no_bit n i h = let l = bit_at-lt n i in grind (arith, nat_tests)

bit_at-shifted : (n k i : ℕ) → bit_at (n / 2 ^ k) i ≡ bit_at n (k + i)
bit_at-shifted n k i = ap (λ x. x % 2) (shr-shr n k i)

-- a number without bits from k on is below 2 ^ k
pub below_from_bits : (n k : ℕ) → ((i : ℕ) → k ≤ i → has_bit n i ≡ false) → n < 2 ^ k
below_from_bits n k h =
    let none : n / 2 ^ k ≡ 0 =
    same_from_bits (n / 2 ^ k) 0 (λ i. bit_at-shifted n k i ∙ no_bit n (k + i) (h (k + i) (omega arith)) ∙ sym (bit_at-zero i)) in
    let split : n / 2 ^ k * 2 ^ k + n % 2 ^ k ≡ n = shr_split n k in
    let low : n % 2 ^ k < 2 ^ k = mod_below n (2 ^ k) (pow_pos k) in
    omega (arith, none, split, low, ap (λ x. x * 2 ^ k) none)

-- ---- the bits of a field

pub bit_at-low : (n w i : ℕ) → i < w → bit_at (n % 2 ^ w) i ≡ bit_at n i
bit_at-low n w i h = sym (bit_at_cat_low (n / 2 ^ w) w (n % 2 ^ w) i h) ∙ ap (λ x. bit_at x i) (shr_split n w)

pub has_bit-field : (n p w i : ℕ) → i < w → has_bit (bits_from n p w) i ≡ has_bit n (p + i)
has_bit-field n p w i h = ap (λ x. x == 1) (bit_at-low (n / 2 ^ p) w i h ∙ bit_at-shifted n p i)

pub bits_from-below : (n p w : ℕ) → bits_from n p w < 2 ^ w
bits_from-below n p w = mod_below (n / 2 ^ p) (2 ^ w) (pow_pos w)

-- a field without bits from k on is below 2 ^ k
pub field_below : (n p w k : ℕ) → ((i : ℕ) → i < w → k ≤ i → has_bit n (p + i) ≡ false) → bits_from n p w < 2 ^ k
field_below n p w k h =
    below_from_bits (bits_from n p w) k
    (λ i l. elim (cases_lt i w) [
      | inl below ↦ has_bit-field n p w i below ∙ h i below l
      | inr above ↦ has_bit-above (bits_from n p w) w i (bits_from-below n p w) above
    ])

-- ---- fields of one bit

abbrev pub bits_between : (ℕ → Bool) → (m k : ℕ) → List Field
bits_between f m k = map (λ q. (bit_if (f q), 1)) (range_with_len m k)

pub bit_if-lt : (b : Bool) → bit_if b < 2 ^ 1
bit_if-lt true = omega arith
bit_if-lt false = omega arith

pub bit_if-eq : (b : Bool) → (bit_if b == 1) ≡ b
bit_if-eq true = refl
bit_if-eq false = refl

-- behind so many bits
pub bits_behind :
    (f : ℕ → Bool) (m k j w : ℕ) (gs : List Field) → bits_from (packed (bits_between f m k ++ gs)) (k + j) w ≡ bits_from (packed gs) j w
bits_behind f m zero j w gs = let e : zero + j ≡ j = omega arith in ap (λ i. bits_from (packed gs) i w) e
bits_behind f m (suc k) j w gs =
    let e : suc k + j ≡ 1 + (k + j) = omega arith in
    ap (λ i. bits_from (packed (bits_between f m (suc k) ++ gs)) i w) e
    ∙ packed_behind (bit_if (f m)) 1 (packed (bits_between f (m + 1) k ++ gs)) (k + j) w (bit_if-lt (f m))
    ∙ bits_behind f (m + 1) k j w gs

bits_within : (f : ℕ → Bool) (m k q : ℕ) (gs : List Field) → q < k → bits_from (packed (bits_between f m k ++ gs)) q 1 ≡ bit_if (f (m + q))
bits_within f m zero q gs h = absurd (omega arith)
bits_within f m (suc k) zero gs h =
    let e : m ≡ m + zero = omega arith in
    packed_first (bit_if (f m)) 1 (packed (bits_between f (m + 1) k ++ gs)) (bit_if-lt (f m)) ∙ ap (λ i. bit_if (f i)) e
bits_within f m (suc k) (suc q) gs h =
    let e : suc q ≡ 1 + q = omega arith in let same : m + 1 + q ≡ m + suc q = omega arith in
    ap (λ i. bits_from (packed (bits_between f m (suc k) ++ gs)) i 1) e
    ∙ packed_behind (bit_if (f m)) 1 (packed (bits_between f (m + 1) k ++ gs)) q 1 (bit_if-lt (f m))
    ∙ bits_within f (m + 1) k q gs (omega arith)
    ∙ ap (λ i. bit_if (f i)) same

-- the bit of a number is its test
pub has_bit-within : (f : ℕ → Bool) (k q : ℕ) (gs : List Field) → q < k → has_bit (packed (bits_between f 0 k ++ gs)) q ≡ f q
has_bit-within f k q gs h =
    let e : 0 + q ≡ q = omega arith in ap (λ x. x == 1) (bits_within f 0 k q gs h) ∙ bit_if-eq (f (0 + q)) ∙ ap f e

pub has_bit-behind :
    (f : ℕ → Bool) (k j : ℕ) (gs : List Field) → has_bit (packed (bits_between f 0 k ++ gs)) (k + j) ≡ has_bit (packed gs) j
has_bit-behind f k j gs = ap (λ x. x == 1) (bits_behind f 0 k j 1 gs)

-- all of them together
pub bits_between-below : (f : ℕ → Bool) (m k : ℕ) → packed (bits_between f m k) < 2 ^ k
bits_between-below f m zero = omega arith
bits_between-below f m (suc k) = omega (arith, pow-suc 2 k, bit_if-lt (f m), bits_between-below f (m + 1) k)

pub bits_above : (f : ℕ → Bool) (m k : ℕ) (gs : List Field) (w : ℕ) → packed gs < 2 ^ w → packed (bits_between f m k ++ gs) < 2 ^ (k + w)
bits_above f m zero gs w h = let e : zero + w ≡ w = omega arith in rw e h
bits_above f m (suc k) gs w h =
    let e : suc k + w ≡ suc (k + w) = omega arith in
    rw e (omega (arith, pow-suc 2 (k + w), bit_if-lt (f m), bits_above f (m + 1) k gs w h))
