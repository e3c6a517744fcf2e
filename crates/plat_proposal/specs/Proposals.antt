-- the policy that a proposal comes to
use Rattle.std.specs.Prelude.{ℕ, ◌≢◌, IsTrue, Bool, true, false, if◌then◌else◌, Option}
use Rattle.plat_base.specs.declared.frames.Dir.{Dir}
use Rattle.plat_base.specs.declared.policies.Verdict.{Verdict}
use Rattle.plat_base.specs.declared.policies.Verdict.TheVariants.{Stay, Freeze, Move}
use Rattle.plat_base.specs.Verdicts.{Answer}

-- a page that is frozen already stays, and is not frozen again
abbrev pub unless_frozen : Bool → Verdict → Verdict
unless_frozen frozen Stay = Stay
unless_frozen frozen Freeze = if frozen then Stay else Freeze
unless_frozen frozen Move = Move

abbrev pub answer_of : Answer → Answer
answer_of proposed dir last now = unless_frozen dir.frozen (proposed dir last now)

pub answer_of-frozen : (proposed : Answer) (dir : Dir) (last : Option ℕ) (now : ℕ) → IsTrue dir.frozen →
    answer_of proposed dir last now ≢ Freeze
answer_of-frozen proposed dir last now h = by (proposed dir last now) dir.frozen h
  where
    by : (v : Verdict) (frozen : Bool) → IsTrue frozen → unless_frozen frozen v ≢ Freeze
    by Stay frozen h = λ e. cc
    by Freeze true h = λ e. cc
    by Freeze false h = absurd cc
    by Move frozen h = λ e. cc
