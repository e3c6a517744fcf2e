use Rattle.std.proofs.Common.{◌≡◌, ℕ, ◌<◌}
use Rattle.std.specs.Prelude.{◌==◌}
use Rattle.std.specs.Int.{bit_at}
use Rattle.plat_coarse.proofs.FrameLemmas.{is_used_before}
use Rattle.plat_coarse.proofs.frames.used_numbers.Given as goal

-- the numbers of the frames that are copies of the pages before the next one
abbrev pub invariant-loop-page : goal.invariant-loop-page
invariant-loop-page l = (number : ℕ) → number < 64 → (bit_at l.used number == 1) ≡ is_used_before l.page l.chronicle.items l.module number
