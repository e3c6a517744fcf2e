-- the live actors of a word: how many, the lowest above another, and whether one is among them
use Rattle.std.proofs.Common.{◌≡◌, ◌≢◌, ℕ, ◌+◌, ◌-◌, ◌*◌, ◌/◌, ◌%◌, ◌^◌, ◌<◌, ◌≤◌, zero, suc, Bool, true, false, ◌&&◌, [], length, find}
use Rattle.std.proofs.Common.{leb, ⊎_elim, filter, nat_lt, Some, None, refl, ap, sym, ◌∙◌, subst, arith, bit_or}
use Rattle.std.specs.Prelude.{◌==◌, nat_le}
use Rattle.std.specs.List.{list_any, range_with_len}
use Rattle.std.specs.Int.{w32, trailing_zeros}
use Rattle.std.specs.Int.RustNames.{count_ones}
use Rattle.std.proofs.lemmas.Bool.{cases_Bool, leb-true, leb-false}
use Rattle.std.proofs.lemmas.Bool.Decides.{nat_tests}
use Rattle.std.specs.Int.{bit_at}
use Rattle.std.proofs.lemmas.Nat.Bits.{bit_at_lowest, bit_at-suc, bit_at-zero, bit_at_set_same, bit_at_set_other, bit_at_above}
use Rattle.std.proofs.lemmas.Nat.Bits.{bit_at-trailing_zeros}
use Rattle.std.proofs.lemmas.Nat.{shr_below, shr_le, shr-shr, zero_from_ones}
use lib.Count.{ones, ones_in, ones_step}
use Rattle.plat_base.specs.Pages.{numbers}
use Rattle.plat_sched.specs.Actors.{is_set, is_actor, most_actors, actors_of}

pub most_actors_is : most_actors ≡ 32
unfolding most_actors
most_actors_is = refl

-- ---- tests that agree on a range

pub filter_agrees : (p q : ℕ → Bool) (a n : ℕ) → ((k : ℕ) → a ≤ k → k < a + n → p k ≡ q k) →
    filter p (range_with_len a n) ≡ filter q (range_with_len a n)
filter_agrees p q a zero h = refl
filter_agrees p q a (suc n) h = grind (arith, h a, filter_agrees p q (a + 1) n (λ k l m. h k (omega arith) (omega arith)))

pub find_agrees : (p q : ℕ → Bool) (a n : ℕ) → ((k : ℕ) → a ≤ k → k < a + n → p k ≡ q k) →
    find p (range_with_len a n) ≡ find q (range_with_len a n)
find_agrees p q a zero h = refl
find_agrees p q a (suc n) h = grind (arith, h a, find_agrees p q (a + 1) n (λ k l m. h k (omega arith) (omega arith)))

-- ---- the lowest above a number

find_past : (p : ℕ → Bool) (a n k : ℕ) → k < a → find (nat_lt k) (filter p (range_with_len a n)) ≡ find p (range_with_len a n)
find_past p a zero k h = refl
find_past p a (suc n) k h = grind (arith, nat_tests, find_past p (a + 1) n k)

-- the range begins d below the first number that counts
find_from : (p : ℕ → Bool) (d a k m n : ℕ) → a + d ≡ k + 1 → n ≡ d + m → find (nat_lt k) (filter p (range_with_len a n))
    ≡ find p (range_with_len (k + 1) m)
find_from p zero a k m n e f =
    let b : a ≡ k + 1 = omega arith in
    let g : n ≡ m = omega arith in
    find_past p a n k (omega arith) ∙ cc
find_from p (suc d) a k m n e f =
    let g : n ≡ suc (d + m) = omega arith in
    let l : a ≤ k = omega arith in
    rw g (grind (arith, nat_tests, find_from p d (a + 1) k m (d + m) (omega arith) refl))

-- ---- the number of actors

filter_shifted : (n a k : ℕ) → length (filter (is_set n) (range_with_len (a + 1) k)) ≡ length (filter (is_set (n / 2)) (range_with_len a k))
filter_shifted n a zero = refl
filter_shifted n a (suc k) = grind (arith, nat_tests, bit_at-suc n a, filter_shifted n (a + 1) k)

no_ones : count_ones 0 ≡ 0
unfolding ones ones_in
no_ones = refl

ones-length : (k n : ℕ) → n < 2 ^ k → count_ones n ≡ length (filter (is_set n) (range_with_len 0 k))
ones-length zero n h = let e : n ≡ 0 = omega arith in rw e no_ones
ones-length (suc k) n h =
    let e : 2 ^ suc k ≡ 2 ^ (k + 1) = ap (λ (t : ℕ). 2 ^ t) (omega arith) in
    let half : n / 2 < 2 ^ k = shr_below n k 1 (subst (λ (t : ℕ). n < t) e h) in
    grind (arith, nat_tests, bit_at_lowest n, ones_step n, filter_shifted n 0 k, ones-length k (n / 2) half)

pub count_is : (live : ℕ) → live < 2 ^ 32 → count_ones live ≡ length (actors_of live)
unfolding actors_of
count_is live h = ones-length most_actors live (rw most_actors_is h)

-- ---- whether an actor is live

any_in_range : (p : ℕ → Bool) (a n b : ℕ) → list_any (λ c. c == b) (filter p (range_with_len a n)) ≡ (nat_le a b && nat_lt b (a + n) && p b)
any_in_range p a zero b = grind (arith, nat_tests)
any_in_range p a (suc n) b = grind (arith, nat_tests, any_in_range p (a + 1) n b)

pub any_is : (live a : ℕ) → list_any (λ b. b == a) (actors_of live) ≡ is_actor live a
unfolding actors_of
any_is live a = any_in_range (is_set live) 0 most_actors a ∙ grind (arith, nat_tests, most_actors_is)

pub some_actor : (live : ℕ) → live < 2 ^ 32 → live ≢ 0 → 0 < length (actors_of live)
some_actor live h k =
    let ne : length (actors_of live) ≢ 0 = λ e. k (zero_from_ones live (count_is live h ∙ e)) in
    omega arith

-- ---- what the searches over the bits find

pub filter_is : (live : ℕ) → filter (is_actor live) (range_with_len 0 most_actors) ≡ actors_of live
unfolding actors_of
filter_is live =
    filter_agrees (is_actor live) (is_set live) 0 most_actors (λ k l m. grind (arith, nat_tests, most_actors_is))

pub find_is : (live k : ℕ) → k < 32 → find (is_actor live) (range_with_len (k + 1) (32 - (k + 1))) ≡ find (nat_lt k) (actors_of live)
unfolding actors_of
find_is live k h =
    find_agrees (is_actor live) (is_set live) (k + 1) (32 - (k + 1)) (λ j l m. grind (arith, nat_tests))
    ∙ sym (find_from (is_set live) (k + 1) 0 k (32 - (k + 1)) most_actors (omega arith) (omega (arith, most_actors_is)))

-- ---- the lowest bit behind a number

find_first : (p : ℕ → Bool) (a n t : ℕ) → t < n → p (a + t) ≡ true → ((j : ℕ) → j < t → p (a + j) ≡ false) →
    find p (range_with_len a n) ≡ Some (a + t)
find_first p a zero t l is none = absurd (omega (arith, l))
find_first p a (suc n) zero l is none = let e : a + 0 ≡ a = omega arith in grind (arith, e, is)
find_first p a (suc n) (suc t) l is none =
    let e : a + 0 ≡ a = omega arith in
    let f : a + 1 + t ≡ a + suc t = omega arith in
    let h = none 0 (omega arith) in
    let later = find_first p (a + 1) n t (omega (arith, l)) (ap p f ∙ is)
    (λ j m. let g : a + 1 + j ≡ a + (j + 1) = omega arith in ap p g ∙ none (j + 1) (omega (arith, m))) in
    grind (arith, e, f, h, later)

find_nothing : (p : ℕ → Bool) (a n : ℕ) → ((j : ℕ) → a ≤ j → p j ≡ false) → find p (range_with_len a n) ≡ None
find_nothing p a zero none = refl
find_nothing p a (suc n) none = grind (arith, none a, find_nothing p (a + 1) n (λ j l. none j (omega arith)))

-- the bits of a number behind the first k + 1
bit_behind : (live k j : ℕ) → bit_at (live / 2 ^ k / 2) j ≡ bit_at live (k + 1 + j)
bit_behind live k j = ap (λ (n : ℕ). n / 2 ^ j % 2) (shr-shr live k 1) ∙ ap (λ (n : ℕ). n % 2) (shr-shr live (k + 1) j)

set_inside : (live i : ℕ) → live < 2 ^ 32 → bit_at live i ≡ 1 → i < 32
set_inside live i small set =
    ⊎_elim (λ behind. absurd (omega (arith, set, bit_at_above live 32 i small (leb-true 32 i behind)))) (λ before. leb-false 32 i before)
    (cases_Bool (leb 32 i))

pub next_behind : (live k : ℕ) → k < 32 → live < 2 ^ 32 → live / 2 ^ k / 2 ≢ 0 →
    Some (k + 1 + trailing_zeros w32 (live / 2 ^ k / 2)) ≡ find (nat_lt k) (actors_of live)
next_behind live k h small some =
    let behind = live / 2 ^ k / 2 in
    let less : live / 2 ^ k ≤ live = shr_le live k in
    let lowest = bit_at-trailing_zeros w32 behind (omega (arith, some)) (omega (arith, less, small)) in
    let t = trailing_zeros w32 behind in
    let set : bit_at live (k + 1 + t) ≡ 1 = sym (bit_behind live k t) ∙ lowest.1 in
    let inside : k + 1 + t < 32 = set_inside live (k + 1 + t) small set in
    let none : (j : ℕ) → j < t → is_actor live (k + 1 + j) ≡ false =
    λ j m. let clear : bit_at live (k + 1 + j) ≡ 0 = sym (bit_behind live k j) ∙ lowest.2 j m in grind (arith, nat_tests, clear) in
    sym (sym (find_is live k h)
    ∙ find_first (is_actor live) (k + 1) (32 - (k + 1)) t (omega (arith, inside)) (grind (arith, nat_tests, set, inside)) none)

pub nobody_behind : (live k : ℕ) → k < 32 → live / 2 ^ k / 2 ≡ 0 → None ≡ find (nat_lt k) (actors_of live)
nobody_behind live k h none =
    sym (sym (find_is live k h) ∙ find_nothing (is_actor live) (k + 1) (32 - (k + 1)) clear)
  where
    clear : (j : ℕ) → k + 1 ≤ j → is_actor live j ≡ false
    clear j l =
        let e : k + 1 + (j - (k + 1)) ≡ j = omega (arith, l) in
        let zeros : bit_at live j ≡ 0 =
        ap (bit_at live) (sym e) ∙ (sym (bit_behind live k (j - (k + 1))) ∙ (ap (λ (n : ℕ). bit_at n (j - (k + 1))) none ∙ bit_at-zero _)) in
        grind (arith, nat_tests, zeros)

-- ---- for callers: the word whose bits are the numbers below n that pass a test

filter_empty : (q : ℕ → Bool) (a n : ℕ) → ((k : ℕ) → a ≤ k → k < a + n → q k ≡ false) → filter q (range_with_len a n) ≡ []
filter_empty q a zero h = refl
filter_empty q a (suc n) h =
    grind (arith, h a, filter_empty q (a + 1) n (λ k l m. h k (omega arith) (omega arith)))

filter_cut : (p q : ℕ → Bool) (n a m k : ℕ) → k ≡ n + m → ((j : ℕ) → a ≤ j → j < a + n → q j ≡ p j) →
    ((j : ℕ) → a + n ≤ j → j < a + k → q j ≡ false) → filter q (range_with_len a k) ≡ filter p (range_with_len a n)
filter_cut p q zero a m k e f g = filter_empty q a k (λ j l r. g j (omega arith) r)
filter_cut p q (suc n) a m k e f g =
    let s : k ≡ suc (n + m) = omega arith in
    let below : (j : ℕ) → a + 1 ≤ j → j < a + 1 + n → q j ≡ p j = λ j l r. f j (omega arith) (omega arith) in
    let above : (j : ℕ) → a + 1 + n ≤ j → j < a + 1 + (n + m) → q j ≡ false = λ j l r. g j (omega arith) (omega arith) in
    rw s (grind (arith, f a, filter_cut p q n (a + 1) m (n + m) refl below above))

pub actors_are : (p : ℕ → Bool) (n live : ℕ) → n ≤ 32 → ((a : ℕ) → a < n → is_set live a ≡ p a) →
    ((a : ℕ) → n ≤ a → a < 32 → is_set live a ≡ false) → actors_of live ≡ filter p (numbers n)
unfolding actors_of
actors_are p n live l f g =
    filter_cut p (is_set live) n 0 (32 - n) most_actors (omega (arith, most_actors_is)) (λ a _ r. f a (omega arith))
    (λ a r t. g a (omega arith) (omega (arith, most_actors_is)))

pub is_set-zero : (a : ℕ) → is_set 0 a ≡ false
is_set-zero a = ap (λ (n : ℕ). n == 1) (bit_at-zero a)

-- the word `live | 1 << q`
pub is_set-with_same : (live q : ℕ) → q < 32 → is_set (bit_or live (1 * 2 ^ q % 2 ^ 32)) q ≡ true
is_set-with_same live q h = ap (λ (n : ℕ). n == 1) (bit_at_set_same w32 live q h)

pub is_set-with_other : (live q a : ℕ) → q < 32 → a ≢ q → is_set (bit_or live (1 * 2 ^ q % 2 ^ 32)) a ≡ is_set live a
is_set-with_other live q a h k = ap (λ (n : ℕ). n == 1) (bit_at_set_other w32 live q h a k)
