-- pools: the lowest free frame, a pool without it, and a frame that is given back
use Rattle.std.proofs.Common.{◌≡◌, ℕ, zero, suc, ◌+◌, ◌-◌, ◌*◌, ◌/◌, ◌%◌, ◌^◌, ◌<◌, ◌≤◌, Bool, true, false, Some, inl, inr, ap, sym, ◌∙◌}
use Rattle.std.proofs.Common.{arith}
use Rattle.std.specs.Prelude.{◌==◌, ◌&&◌, ◌||◌, not, bit_and, bit_or, find, unwrap_or}
use Rattle.std.specs.Int.{bit_at, trailing_zeros, w64}
use Rattle.std.specs.List.{range_with_len}
use Rattle.std.proofs.lemmas.Bool.Decides.{nat_tests}
use Rattle.std.proofs.Math.Nat.{pow-le-pow_right}
use Rattle.std.proofs.lemmas.Bool.{cases_eq, cases_lt}
use Rattle.std.proofs.lemmas.Nat.{and-not, and_comm, and_block, mod_below, or_lt, pow_below, pow_pos, shr_split}
use Rattle.std.proofs.lemmas.Nat.Bits.{bit_at-trailing_zeros, and_pow, bit_at-lt, bit_at-zero, same_from_bits_below}
use Rattle.std.specs.Int.Bits.{and_self, and_zero_l}
use Rattle.plat_events.specs.Words.{has_bit, all_but, lowest_free, without_lowest}
use Rattle.plat_words.proofs.SingleBits.{has_bit-pow, has_bit-set, has_bit-cleared, has_bit-above, no_bit, bit_at-low}
use Rattle.plat_base.proofs.ListLemmas.{find-range_first}

-- the lowest free frame, as the number of zeros below it
pub lowest_free-zeros : (n : ℕ) → 0 < n → n < 2 ^ 64 → lowest_free n ≡ trailing_zeros w64 n
unfolding lowest_free
lowest_free-zeros n h k =
    let z = bit_at-trailing_zeros w64 n h k in
    ap (λ o. unwrap_or o 0)
    (find-range_first (has_bit n) 0 64 (trailing_zeros w64 n) (omega arith) (omega (arith, z.0)) (ap (λ b. b == 1) z.1)
    (λ j l m. ap (λ b. b == 1) (z.2 j m)))

pub record IsLowest (n t : ℕ) : Type 0 where
  pub within : t < 64
  pub free : has_bit n t ≡ true
  pub lowest : (j : ℕ) → j < t → has_bit n j ≡ false

pub lowest_free-is : (n : ℕ) → 0 < n → n < 2 ^ 64 → IsLowest n (lowest_free n)
lowest_free-is n h k =
    let z = bit_at-trailing_zeros w64 n h k in let e = lowest_free-zeros n h k in
    rw e (record { within = z.0; free = ap (λ b. b == 1) z.1; lowest = λ j l. ap (λ b. b == 1) (z.2 j l) })

-- it is a frame of its module
pub lowest_free-below : (n frames : ℕ) → 0 < n → n < 2 ^ frames → frames ≤ 64 → lowest_free n < frames
lowest_free-below n frames h k l =
    let is = lowest_free-is n h (omega (arith, k, pow-le-pow_right {n = 2} (omega arith) {i = frames} {j = 64} l)) in
    elim (cases_lt (lowest_free n) frames) [
      | inl below ↦ below
      | inr above ↦ absurd (let none = has_bit-above n frames (lowest_free n) k above in let free = is.free in cc)
    ]

bit_set : (n i : ℕ) → has_bit n i ≡ true → bit_at n i ≡ 1
bit_set n i h = let l = bit_at-lt n i in grind (arith, nat_tests)

one_times : (n : ℕ) → 1 * n ≡ n
one_times n = omega arith

-- a pool without its lowest frame is the pool with that bit cleared
pub without_lowest-cleared : (n : ℕ) → 0 < n → n < 2 ^ 64 → without_lowest n ≡ bit_and n (all_but (2 ^ lowest_free n))
without_lowest-cleared n h k =
    let is = lowest_free-is n h k in let t : ℕ = lowest_free n in
    let small : 2 ^ t < 2 ^ 64 = pow_below t 64 is.within in
    let one : bit_at n t ≡ 1 = bit_set n t is.free in
    let both : bit_and (2 ^ t) n ≡ 2 ^ t = and_comm (2 ^ t) n ∙ and_pow n t ∙ ap (λ b. b * 2 ^ t) one ∙ one_times (2 ^ t) in
    let rest : bit_and (all_but (2 ^ t)) n + bit_and (2 ^ t) n ≡ n = and-not 64 (2 ^ t) n small k in
    let left : n - 2 ^ t ≡ bit_and (all_but (2 ^ t)) n = omega (arith, rest, both) in
    left ∙ and_comm (all_but (2 ^ t)) n

pub has_bit-taken : (n i : ℕ) → 0 < n → n < 2 ^ 64 → i < 64 → has_bit (without_lowest n) i ≡ (has_bit n i && not (i == lowest_free n))
has_bit-taken n i h k l =
    let is = lowest_free-is n h k in
    ap (λ x. has_bit x i) (without_lowest-cleared n h k)
    ∙ has_bit-cleared n (2 ^ lowest_free n) i (pow_below (lowest_free n) 64 is.within) l
    ∙ ap (λ b. has_bit n i && not b) (has_bit-pow (lowest_free n) i)

-- and what the code computes
odd_and : (q : ℕ) → bit_and (q * 2 ^ 1 + 1) (q * 2 ^ 1 + 0) ≡ q * 2
odd_and q = and_block 1 q q 1 0 (omega arith) (omega arith) ∙ ap (λ x. x * 2 + 0) (and_self q) ∙ omega arith

less_one : (q t : ℕ) → bit_and ((q * 2 ^ 1 + 1) * 2 ^ t + 0) ((q * 2 ^ 1 + 0) * 2 ^ t + (2 ^ t - 1)) ≡ q * 2 * 2 ^ t
less_one q t =
    let pos = pow_pos t in
    and_block t (q * 2 ^ 1 + 1) (q * 2 ^ 1 + 0) 0 (2 ^ t - 1) pos (omega (arith, pos))
    ∙ ap (λ x. x * 2 ^ t + bit_and 0 (2 ^ t - 1)) (odd_and q) ∙ ap (λ x. q * 2 * 2 ^ t + x) (and_zero_l (2 ^ t - 1)) ∙ omega arith

lower_bits : (n t : ℕ) → ((j : ℕ) → j < t → has_bit n j ≡ false) → n % 2 ^ t ≡ 0
lower_bits n t h =
    same_from_bits_below t (n % 2 ^ t) 0 (mod_below n (2 ^ t) (pow_pos t)) (pow_pos t)
    (λ i l. bit_at-low n t i l ∙ no_bit n i (h i l) ∙ sym (bit_at-zero i))

pub without_lowest-and : (n : ℕ) → 0 < n → n < 2 ^ 64 → bit_and n (n - 1) ≡ without_lowest n
without_lowest-and n h k =
    let is = lowest_free-is n h k in let t : ℕ = lowest_free n in let q : ℕ = n / 2 ^ t / 2 in
    let none : n % 2 ^ t ≡ 0 = lower_bits n t is.lowest in
    let one : n / 2 ^ t % 2 ≡ 1 = bit_set n t is.free in
    let odd : n / 2 ^ t ≡ q * 2 ^ 1 + 1 = omega (arith, one) in
    let split : n / 2 ^ t * 2 ^ t + n % 2 ^ t ≡ n = shr_split n t in
    let whole : n ≡ (q * 2 ^ 1 + 1) * 2 ^ t + 0 = sym split ∙ ap (λ x. n / 2 ^ t * 2 ^ t + x) none ∙ ap (λ x. x * 2 ^ t + 0) odd in
    let pos = pow_pos t in
    let less : n - 1 ≡ (q * 2 ^ 1 + 0) * 2 ^ t + (2 ^ t - 1) = omega (arith, whole, pos) in
    ap (λ x. bit_and x (n - 1)) whole ∙ ap (λ x. bit_and ((q * 2 ^ 1 + 1) * 2 ^ t + 0) x) less ∙ less_one q t ∙ omega (arith, whole, pos)

pub given_below : (n j frames : ℕ) → n < 2 ^ frames → j < frames → bit_or n (2 ^ j) < 2 ^ frames
given_below n j frames h k = or_lt frames n (2 ^ j) h (pow_below j frames k)
