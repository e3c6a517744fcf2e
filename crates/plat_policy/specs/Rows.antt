-- the rows of the table of protocol actions, and what each one needs
use Rattle.std.specs.Prelude.{ℕ, Bool, nat_lt, if◌then◌else◌, ◌&&◌, not, is_some, Option}
use Rattle.plat_base.specs.Verdicts.{Answer}
use Rattle.plat_base.specs.Machine.{Machine}
use Rattle.plat_base.specs.Decide as decide
use Rattle.plat_base.specs.Decide.{is_empty, is_some_frame, asks}
use Rattle.plat_base.specs.declared.frames.Frame.{Frame}
use Rattle.plat_base.specs.declared.frames.Dir.{Dir}
use Rattle.plat_base.specs.declared.frames.State.{State}
use Rattle.plat_base.specs.declared.items.Cause.TheVariants as cause
use Rattle.plat_base.specs.declared.policies.Verdict.{Verdict}
use Rattle.plat_base.specs.declared.policies.Verdict.TheVariants as verdict
use Rattle.plat_policy.specs.declared.rows.Row.{Row}
use Rattle.plat_policy.specs.declared.rows.Row.TheVariants as row

-- the row of the definition that a row of the program is
abbrev pub row_seen : Row → decide.Row
row_seen row.ReadFill = decide.ReadFill
row_seen row.ReadLocal = decide.ReadLocal
row_seen row.ReadRemote = decide.ReadRemote
row_seen row.ReadCopy = decide.ReadCopy
row_seen row.ReadRemoteDirty = decide.ReadRemoteDirty
row_seen row.ReadCopyDirty = decide.ReadCopyDirty
row_seen row.WriteFill = decide.WriteFill
row_seen row.WriteLocal = decide.WriteLocal
row_seen row.WriteRemote = decide.WriteRemote
row_seen row.WriteMove = decide.WriteMove
row_seen row.CollapseHere = decide.CollapseHere
row_seen row.CollapseNear = decide.CollapseNear
row_seen row.WriteMoveMany = decide.WriteMoveMany
row_seen row.Thawed = decide.Thawed

-- the node is one of the machine, and has a copy
abbrev pub has_here : Machine → ℕ → Option Frame → Bool
has_here m node here = nat_lt node m.nodes && is_some here

-- the node is one of the machine, and the page has a copy
abbrev pub has_near : Machine → ℕ → State → Bool
has_near m node state = nat_lt node m.nodes && not (is_empty state)

-- what a row needs, by the page's state and the node's copy: a frame that was got, that copy, or any copy
abbrev pub row_fits : Machine → decide.Row → State → (here : Option Frame) → (node : ℕ) → (got : Option Frame) → Bool
row_fits m decide.ReadFill state here node got = is_some_frame m got
row_fits m decide.ReadLocal state here node got = has_here m node here
row_fits m decide.ReadRemote state here node got = has_near m node state
row_fits m decide.ReadCopy state here node got = is_some_frame m got
row_fits m decide.ReadRemoteDirty state here node got = has_near m node state
row_fits m decide.ReadCopyDirty state here node got = is_some_frame m got
row_fits m decide.WriteFill state here node got = is_some_frame m got
row_fits m decide.WriteLocal state here node got = has_here m node here
row_fits m decide.WriteRemote state here node got = has_near m node state
row_fits m decide.WriteMove state here node got = is_some_frame m got
row_fits m decide.CollapseHere state here node got = has_here m node here
row_fits m decide.CollapseNear state here node got = has_near m node state
row_fits m decide.WriteMoveMany state here node got = is_some_frame m got
row_fits m decide.Thawed state here node got = not (is_empty state)

-- the policy's answer where it is asked at a fault, else that the page stays
abbrev pub asked : Answer → Dir → Option ℕ → (now node : ℕ) → Verdict
asked answer dir last now node = if asks cause.Read dir node then answer dir last now else verdict.Stay
