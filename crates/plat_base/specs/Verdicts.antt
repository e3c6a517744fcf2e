-- the verdicts of the policies that a machine text can name
use Rattle.std.specs.Prelude.{ℕ, ◌+◌, ◌≢◌, IsTrue, Bool, false, nat_lt, if◌then◌else◌, Option, Some, None}
use Rattle.std.proofs.Common.{arith}
use Rattle.plat_base.specs.declared.frames.Dir.{Dir}
use Rattle.plat_base.specs.declared.policies.Verdict.{Verdict}
use Rattle.plat_base.specs.declared.policies.Verdict.TheVariants.{Stay, Freeze, Move}
use Rattle.plat_base.specs.declared.policies.PolicyKind.{PolicyKind}
use Rattle.plat_base.specs.declared.policies.PolicyKind.TheVariants.{Place, Replicate, Platinum}

-- what a policy answers, of the directory of a page, its last invalidation and the tick
abbrev pub Answer : Type 0
Answer = Dir → Option ℕ → ℕ → Verdict

-- an invalidation within the window of t1 ticks; a tick earlier than the last invalidation counts as recent
abbrev pub is_recent : ℕ → Option ℕ → ℕ → Bool
is_recent t1 None now = false
is_recent t1 (Some last) now = nat_lt now (last + t1)

-- what the three policies answer
abbrev pub policy_answer : PolicyKind → Answer
policy_answer Place dir last now = Stay
policy_answer Replicate dir last now = Move
policy_answer (Platinum t1 t2) dir last now =
    if dir.frozen then Stay else if is_recent t1 last now then Freeze else Move

-- a frozen page is not frozen again
pub policy_answer-frozen : (p : PolicyKind) (dir : Dir) (last : Option ℕ) (now : ℕ) → IsTrue dir.frozen →
    policy_answer p dir last now ≢ Freeze
policy_answer-frozen Place dir last now h = λ e. cc
policy_answer-frozen Replicate dir last now h = λ e. cc
policy_answer-frozen (Platinum t1 t2) dir last now h = grind arith
