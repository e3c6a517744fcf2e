-- the bits of one set that are not in another
use Rattle.std.proofs.Common.{◌≡◌, ℕ, ◌<◌, ◌^◌, ◌-◌, ap, ◌∙◌, arith}
use Rattle.std.specs.Prelude.{◌==◌, ◌&&◌, not}
use Rattle.std.specs.Int.{bit_at, w32}
use Rattle.std.proofs.lemmas.Nat.Bits.{bit_at_not, bit_at-lt}
use Rattle.plat_events.specs.Words.{has_bit}
use Rattle.plat_words.proofs.SingleBits.{has_bit-and, not-test}
use Rattle.plat_shoot.proofs.masks.without.Goals as goal

has_bit-not : (b i : ℕ) → b < 2 ^ 32 → i < 32 → has_bit (2 ^ 32 - 1 - b) i ≡ not (has_bit b i)
has_bit-not b i h k = ap (λ x. x == 1) (bit_at_not w32 b i h k) ∙ not-test (bit_at b i) (bit_at-lt b i)

pub returns-clause-bits : goal.returns-clause-bits
returns-clause-bits c = λ i l.
    has_bit-and c.args.set (2 ^ 32 - 1 - c.args.gone) i
    ∙ ap (λ b. has_bit c.args.set i && b) (has_bit-not c.args.gone i (omega arith) l)
