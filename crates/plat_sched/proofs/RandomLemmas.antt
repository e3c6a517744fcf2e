-- the words of the generator, as the schedule's definitions say them
use Rattle.std.proofs.Common.{◌≡◌, ℕ, ◌+◌, ◌-◌, ◌*◌, ◌/◌, ◌%◌, ◌^◌, ◌<◌, zero, suc, ap, ◌∙◌, subst, arith, bit_or, add_comm}
use Rattle.std.proofs.Math.Nat.{mul-mod_left}
use Rattle.std.proofs.lemmas.Nat.{mod-pow-add, shl-shr, shr_below, mod_below}
use lib.Bits.{or_shifted_r, or_self}
use Rattle.std.specs.Int.{w32, rotate_right}
use Rattle.plat_base.specs.Schedule as schedule
use Rattle.rand_pcg.specs.Pcg.{output_xsh_rr}

shl_mod : (x r k : ℕ) → (x * 2 ^ k) % 2 ^ (r + k) ≡ (x % 2 ^ r) * 2 ^ k
shl_mod x r k =
    mod-pow-add (x * 2 ^ k) r k ∙ rw (shl-shr x k, mul-mod_left x (2 ^ k)) (omega arith)

rotate_by : (x r k : ℕ) → x < 2 ^ (r + k) → bit_or (x / 2 ^ r) ((x * 2 ^ k) % 2 ^ (r + k)) ≡ x / 2 ^ r + (x % 2 ^ r) * 2 ^ k
rotate_by x r k h =
    let low : x / 2 ^ r < 2 ^ k = shr_below x k r (subst (λ (t : ℕ). x < 2 ^ t) (add_comm r k) h) in
    rw (shl_mod x r k, or_shifted_r (x % 2 ^ r) k (x / 2 ^ r) low) (omega arith)

-- the same at other spellings of its numbers
rotate_at : (x r k a b m : ℕ) → a ≡ r → b ≡ k → m ≡ 2 ^ (r + k) → x < m → bit_or (x / 2 ^ a) ((x * 2 ^ b) % m)
    ≡ x / 2 ^ r + (x % 2 ^ r) * 2 ^ k
rotate_at x r k a b m e f g h = rw (e, f, g) (rotate_by x r k (rw (← g) h))

rotate_is : (x r : ℕ) → x < 2 ^ 32 → r < 32 → rotate_right w32 x r ≡ schedule.rotate_right x r
rotate_is x zero h l =
    let a : x / 1 ≡ x = omega arith in
    let b : x * 1 % 4294967296 ≡ x = omega arith in
    rw (a, b, or_self x) (omega arith)
rotate_is x (suc r) h l =
    let whole : 32 ≡ suc r + (32 - suc r) = omega arith in
    rotate_at x (suc r) (32 - suc r) (suc r % 32) ((32 - suc r % 32) % 32) 4294967296 (omega arith) (omega arith)
    (ap (λ (t : ℕ). 2 ^ t) whole) h

pub word_is : (s : ℕ) → s < 2 ^ 64 → output_xsh_rr s ≡ schedule.random_word s
word_is s h = rotate_is _ _ (mod_below _ (2 ^ 32) (omega arith)) (shr_below s 5 59 h)
