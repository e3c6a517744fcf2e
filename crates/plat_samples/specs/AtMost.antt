-- the policy under which a page has at most so many copies
use Rattle.std.specs.Prelude.{ℕ, ◌≢◌, nat_lt, if◌then◌else◌, IsTrue, length, Option}
use Rattle.std.proofs.Common.{arith}
use Rattle.plat_base.specs.Verdicts.{Answer}
use Rattle.plat_base.specs.declared.frames.Dir.{Dir}
use Rattle.plat_base.specs.declared.policies.Verdict.TheVariants.{Stay, Freeze, Move}

-- a page moves while it has fewer copies than so many
abbrev pub at_most : ℕ → Answer
at_most most dir last now = if nat_lt (length dir.copies) most then Move else Stay

-- a frozen page is not frozen again
pub at_most-frozen : (most : ℕ) (dir : Dir) (last : Option ℕ) (now : ℕ) → IsTrue dir.frozen → at_most most dir last now ≢ Freeze
at_most-frozen most dir last now h = grind arith
