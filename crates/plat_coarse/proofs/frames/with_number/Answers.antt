use Rattle.std.proofs.Common.{arith, w64, inl, inr}
use Rattle.std.proofs.lemmas.Bool.{cases_eq}
use Rattle.std.proofs.lemmas.Bool.Decides.{nat_tests}
use Rattle.std.proofs.lemmas.Nat.Bits.{bit_at_set_same, bit_at_set_other}
use Rattle.plat_coarse.proofs.frames.with_number.Goals as goal

pub returns-then-number-lt-FRAMES : goal.returns-then-number-lt-FRAMES
returns-then-number-lt-FRAMES c = λ n within.
    elim (cases_eq n c.args.number) [
      | inl same ↦ grind (arith, nat_tests, bit_at_set_same w64 c.args.set c.args.number c.if-number-lt-FRAMES.true)
      | inr differ ↦ grind (arith, nat_tests, bit_at_set_other w64 c.args.set c.args.number c.if-number-lt-FRAMES.true n differ)
    ]
