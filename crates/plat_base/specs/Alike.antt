-- tests of equality on the values that items hold
use Rattle.std.specs.Prelude.{ℕ, Bool, true, false, ◌&&◌, ◌==◌, not}
use Rattle.plat_base.specs.Copies.{same_frame, same_frames}
use Rattle.plat_base.specs.declared.frames.State.{State}
use Rattle.plat_base.specs.declared.frames.State.TheVariants as state
use Rattle.plat_base.specs.declared.frames.Dir.{Dir}
use Rattle.plat_base.specs.declared.items.Right.{Right}
use Rattle.plat_base.specs.declared.items.Right.TheVariants as right
use Rattle.plat_base.specs.declared.items.Kind.{Kind}
use Rattle.plat_base.specs.declared.items.Kind.TheVariants as kind
use Rattle.plat_base.specs.declared.items.Cause.{Cause}
use Rattle.plat_base.specs.declared.items.Cause.TheVariants as cause
use Rattle.plat_base.specs.declared.items.Action.{Action}
use Rattle.plat_base.specs.declared.items.Action.TheVariants as action
use Rattle.plat_base.specs.declared.items.Removed.{Removed}
use Rattle.plat_base.specs.declared.items.Removed.TheVariants as removed
use Rattle.plat_base.specs.declared.items.Grant.{Grant}
use Rattle.plat_base.specs.declared.policies.Verdict.{Verdict}
use Rattle.plat_base.specs.declared.policies.Verdict.TheVariants as verdict
use Rattle.plat_base.specs.declared.endings.End.{End}
use Rattle.plat_base.specs.declared.endings.End.TheVariants as end

abbrev pub state_number : State → ℕ
state_number state.Empty = 0
state_number state.Present1 = 1
state_number state.PresentPlus = 2
state_number state.Modified = 3

abbrev pub same_state : State → State → Bool
same_state a b = state_number a == state_number b

abbrev pub right_number : Right → ℕ
right_number right.Read = 0
right_number right.Write = 1

abbrev pub same_right : Right → Right → Bool
same_right a b = right_number a == right_number b

abbrev pub kind_number : Kind → ℕ
kind_number kind.Load = 0
kind_number kind.Store = 1
kind_number kind.Add = 2

abbrev pub same_kind : Kind → Kind → Bool
same_kind a b = kind_number a == kind_number b

abbrev pub cause_number : Cause → ℕ
cause_number cause.Read = 0
cause_number cause.Write = 1
cause_number cause.Thaw = 2

abbrev pub same_cause : Cause → Cause → Bool
same_cause a b = cause_number a == cause_number b

abbrev pub action_number : Action → ℕ
action_number action.Fill = 0
action_number action.MapLocal = 1
action_number action.MapRemote = 2
action_number action.Replicate = 3
action_number action.Migrate = 4
action_number action.Collapse = 5
action_number action.Thaw = 6

abbrev pub same_action : Action → Action → Bool
same_action a b = action_number a == action_number b

abbrev pub removed_number : Removed → ℕ
removed_number removed.Nothing = 0
removed_number removed.Writes = 1
removed_number removed.All = 2

abbrev pub same_removed : Removed → Removed → Bool
same_removed a b = removed_number a == removed_number b

abbrev pub verdict_number : Verdict → ℕ
verdict_number verdict.Stay = 0
verdict_number verdict.Freeze = 1
verdict_number verdict.Move = 2

abbrev pub same_verdict : Verdict → Verdict → Bool
same_verdict a b = verdict_number a == verdict_number b

abbrev pub end_number : End → ℕ
end_number end.Halted = 0
end_number end.Trapped = 1
end_number end.Spent = 2
end_number end.NoFrames = 3
end_number end.Cut = 4

abbrev pub same_end : End → End → Bool
same_end a b = end_number a == end_number b

abbrev pub same_bool : Bool → Bool → Bool
same_bool true b = b
same_bool false b = not b

abbrev pub same_dir : Dir → Dir → Bool
same_dir a b = same_state a.state b.state && same_bool a.frozen b.frozen && same_frames a.copies b.copies

abbrev pub same_grant : Grant → Grant → Bool
same_grant a b = a.entry == b.entry && same_frame a.frame b.frame && same_right a.right b.right
