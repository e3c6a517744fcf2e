-- the table of protocol actions: what happens at a fault or a thaw
use Rattle.std.specs.Prelude.{ℕ, ◌+◌, ◌==◌, nat_lt, ◌&&◌, ◌||◌, not, if◌then◌else◌, Bool, true, false, List, [], ◌∷◌, length, Option, Some}
use Rattle.std.specs.Prelude.{None, is_some, is_none, unwrap_or}
use Rattle.std.specs.List.{fold, list_all}
use Rattle.plat_base.specs.Verdicts.{Answer}
use Rattle.plat_base.specs.Machine.{Machine}
use Rattle.plat_base.specs.Pages.{distance}
use Rattle.plat_base.specs.Copies.{copy_on, with_frame}
use Rattle.plat_base.specs.Alike.{same_action, same_verdict}
use Rattle.plat_base.specs.Directories.{sets_last}
use Rattle.plat_base.specs.declared.frames.Frame.{Frame}
use Rattle.plat_base.specs.declared.frames.Dir.{Dir}
use Rattle.plat_base.specs.declared.frames.State.{State}
use Rattle.plat_base.specs.declared.frames.State.TheVariants as state
use Rattle.plat_base.specs.declared.items.Cause.{Cause}
use Rattle.plat_base.specs.declared.items.Cause.TheVariants as cause
use Rattle.plat_base.specs.declared.items.Action.{Action}
use Rattle.plat_base.specs.declared.items.Action.TheVariants as action
use Rattle.plat_base.specs.declared.items.Removed.{Removed}
use Rattle.plat_base.specs.declared.items.Removed.TheVariants as removed
use Rattle.plat_base.specs.declared.policies.Verdict.{Verdict}
use Rattle.plat_base.specs.declared.policies.Verdict.TheVariants as verdict
use Rattle.plat_base.specs.declared.policies.Decision.{Decision}

abbrev pub no_frame : Frame
no_frame = record { «module» = 0; number = 0 }

-- the second where it is nearer to the node, else the first
abbrev pub nearer : Machine → ℕ → Frame → Frame → Frame
nearer m node best f = if nat_lt (distance m node f.module) (distance m node best.module) then f else best

-- of frames of rising module the one of least distance from the node, then of the lowest module
abbrev pub nearest : Machine → ℕ → List Frame → Frame
nearest m node [] = no_frame
nearest m node (f ∷ fs) = fold (nearer m node) f fs

-- the rows of the table
pub data Row : Type 0 where
  ReadFill : Row
  ReadLocal : Row
  ReadRemote : Row
  ReadCopy : Row
  ReadRemoteDirty : Row
  ReadCopyDirty : Row
  WriteFill : Row
  WriteLocal : Row
  WriteRemote : Row
  WriteMove : Row
  CollapseHere : Row
  CollapseNear : Row
  WriteMoveMany : Row
  Thawed : Row

-- the row of a fault, by the page's state, whether the node has a copy, and whether the page moves
abbrev pub row_of : Cause → State → (here moves : Bool) → Row
row_of cause.Read state.Empty here moves = ReadFill
row_of cause.Read state.Present1 here moves = if here then ReadLocal else if moves then ReadCopy else ReadRemote
row_of cause.Read state.PresentPlus here moves = if here then ReadLocal else if moves then ReadCopy else ReadRemote
row_of cause.Read state.Modified here moves = if here then ReadLocal else if moves then ReadCopyDirty else ReadRemoteDirty
row_of cause.Write state.Empty here moves = WriteFill
row_of cause.Write state.Present1 here moves = if here then WriteLocal else if moves then WriteMove else WriteRemote
row_of cause.Write state.PresentPlus here moves = if here then CollapseHere else if moves then WriteMoveMany else CollapseNear
row_of cause.Write state.Modified here moves = if here then WriteLocal else if moves then WriteMove else WriteRemote
row_of cause.Thaw state here moves = Thawed

abbrev pub is_empty : State → Bool
is_empty state.Empty = true
is_empty state.Present1 = false
is_empty state.PresentPlus = false
is_empty state.Modified = false

-- the policy is asked where the page has copies, and none on the node
abbrev pub asks : Cause → Dir → ℕ → Bool
asks cause.Read dir node = not (is_empty dir.state) && is_none (copy_on node dir.copies)
asks cause.Write dir node = not (is_empty dir.state) && is_none (copy_on node dir.copies)
asks cause.Thaw dir node = false

-- the page moves where the verdict is to move and a frame on the node was got
abbrev pub moves_page : Verdict → Option Frame → Bool
moves_page v got = same_verdict v verdict.Move && is_some got

-- the frozen bit is set where the verdict is to freeze, and a fault clears it nowhere
abbrev pub frozen_after : Bool → Verdict → Bool → Bool
frozen_after asked v frozen = frozen || (asked && same_verdict v verdict.Freeze)

abbrev pub thawed_state : State → State
thawed_state state.Empty = state.Empty
thawed_state state.Present1 = state.Present1
thawed_state state.PresentPlus = state.PresentPlus
thawed_state state.Modified = state.Present1

abbrev pub first_frame : List Frame → Frame
first_frame [] = no_frame
first_frame (f ∷ fs) = f

abbrev pub after_with : State → Bool → List Frame → Dir
after_with state frozen copies = record { state = state; frozen = frozen; copies = copies }

abbrev pub decision : Action → Removed → Dir → Bool → Frame → Decision
decision action removed after sets_last frame =
    record { action = action; removed = removed; after = after; sets_last = sets_last; frame = frame }

-- ---- the table, column by column

abbrev pub row_action : Row → Action
row_action ReadFill = action.Fill
row_action ReadLocal = action.MapLocal
row_action ReadRemote = action.MapRemote
row_action ReadCopy = action.Replicate
row_action ReadRemoteDirty = action.MapRemote
row_action ReadCopyDirty = action.Replicate
row_action WriteFill = action.Fill
row_action WriteLocal = action.MapLocal
row_action WriteRemote = action.MapRemote
row_action WriteMove = action.Migrate
row_action CollapseHere = action.Collapse
row_action CollapseNear = action.Collapse
row_action WriteMoveMany = action.Migrate
row_action Thawed = action.Thaw

abbrev pub row_removed : Row → Removed
row_removed ReadFill = removed.Nothing
row_removed ReadLocal = removed.Nothing
row_removed ReadRemote = removed.Nothing
row_removed ReadCopy = removed.Nothing
row_removed ReadRemoteDirty = removed.Nothing
row_removed ReadCopyDirty = removed.Writes
row_removed WriteFill = removed.Nothing
row_removed WriteLocal = removed.Nothing
row_removed WriteRemote = removed.Nothing
row_removed WriteMove = removed.All
row_removed CollapseHere = removed.All
row_removed CollapseNear = removed.All
row_removed WriteMoveMany = removed.All
row_removed Thawed = removed.All

-- the state after a row, by the state before it
abbrev pub row_state : Row → State → State
row_state ReadFill s = state.Present1
row_state ReadLocal s = s
row_state ReadRemote s = s
row_state ReadCopy s = state.PresentPlus
row_state ReadRemoteDirty s = state.Modified
row_state ReadCopyDirty s = state.PresentPlus
row_state WriteFill s = state.Modified
row_state WriteLocal s = state.Modified
row_state WriteRemote s = state.Modified
row_state WriteMove s = state.Modified
row_state CollapseHere s = state.Modified
row_state CollapseNear s = state.Modified
row_state WriteMoveMany s = state.Modified
row_state Thawed s = thawed_state s

-- the frame of a row: the one got, the node's own copy, or the nearest one; a thaw names the lowest
abbrev pub row_frame : Machine → Row → List Frame → ℕ → Option Frame → Frame
row_frame m ReadFill copies node got = unwrap_or got no_frame
row_frame m ReadLocal copies node got = unwrap_or (copy_on node copies) no_frame
row_frame m ReadRemote copies node got = nearest m node copies
row_frame m ReadCopy copies node got = unwrap_or got no_frame
row_frame m ReadRemoteDirty copies node got = nearest m node copies
row_frame m ReadCopyDirty copies node got = unwrap_or got no_frame
row_frame m WriteFill copies node got = unwrap_or got no_frame
row_frame m WriteLocal copies node got = unwrap_or (copy_on node copies) no_frame
row_frame m WriteRemote copies node got = nearest m node copies
row_frame m WriteMove copies node got = unwrap_or got no_frame
row_frame m CollapseHere copies node got = unwrap_or (copy_on node copies) no_frame
row_frame m CollapseNear copies node got = nearest m node copies
row_frame m WriteMoveMany copies node got = unwrap_or got no_frame
row_frame m Thawed copies node got = first_frame copies

-- the copies after an action that names this frame
abbrev pub copies_by : Action → Frame → List Frame → List Frame
copies_by action.Fill f copies = f ∷ []
copies_by action.MapLocal f copies = copies
copies_by action.MapRemote f copies = copies
copies_by action.Replicate f copies = with_frame f copies
copies_by action.Migrate f copies = f ∷ []
copies_by action.Collapse f copies = f ∷ []
copies_by action.Thaw f copies = copies

-- a thaw alone clears the frozen bit
abbrev pub keeps_frozen : Action → Bool
keeps_frozen a = not (same_action a action.Thaw)

-- what a row does; frozen is the frozen bit of a fault after it
abbrev pub row_does : Machine → Row → Dir → Bool → ℕ → Option Frame → Decision
row_does m row dir frozen node got =
    let action = row_action row in let frame = row_frame m row dir.copies node got in
    decision action (row_removed row)
    (after_with (row_state row dir.state) (keeps_frozen action && frozen) (copies_by action frame dir.copies)) (sets_last action) frame

-- the decision for a node and a cause, under a policy's answer
abbrev pub decide : Machine → Answer → Dir → Option ℕ → (now node : ℕ) → Cause → Option Frame → Decision
decide m answer dir last now node cause got =
    let v = answer dir last now
    in row_does m (row_of cause dir.state (is_some (copy_on node dir.copies)) (moves_page v got)) dir
    (frozen_after (asks cause dir node) v dir.frozen) node got

-- ---- when a decision may be asked for

abbrev pub is_frame : Machine → Frame → Bool
is_frame m f = nat_lt f.module m.nodes && nat_lt f.number m.frames

-- the modules rise, from low on
abbrev pub modules_rise : ℕ → List Frame → Bool
modules_rise low [] = true
modules_rise low (f ∷ fs) = not (nat_lt f.module low) && modules_rise (f.module + 1) fs

-- empty has no copy, present1 and modified have one, present+ has two or more
abbrev pub has_copies : State → ℕ → Bool
has_copies state.Empty n = n == 0
has_copies state.Present1 n = n == 1
has_copies state.PresentPlus n = nat_lt 1 n
has_copies state.Modified n = n == 1

-- a directory that the machine can have
abbrev pub is_dir : Machine → Dir → Bool
is_dir m dir =
    list_all (is_frame m) dir.copies && modules_rise 0 dir.copies && has_copies dir.state (length dir.copies)
    && not (is_empty dir.state && dir.frozen)

abbrev pub is_frame_on : Machine → ℕ → Option Frame → Bool
is_frame_on m node None = true
is_frame_on m node (Some f) = is_frame m f && f.module == node

abbrev pub is_some_frame : Machine → Option Frame → Bool
is_some_frame m None = false
is_some_frame m (Some f) = is_frame m f

-- the frame got is one that the row can use
abbrev pub fits_fault : Machine → Dir → (asked moves : Bool) → ℕ → Option Frame → Bool
fits_fault m dir asked moves node got =
    if is_empty dir.state then is_some_frame m got else if asked && moves then is_frame_on m node got else is_none got

abbrev pub fits_cause : Machine → Answer → Dir → Option ℕ → (now node : ℕ) → Cause → Option Frame → Bool
fits_cause m answer dir last now node cause.Read got =
    fits_fault m dir (asks cause.Read dir node) (same_verdict (answer dir last now) verdict.Move) node got
fits_cause m answer dir last now node cause.Write got =
    fits_fault m dir (asks cause.Write dir node) (same_verdict (answer dir last now) verdict.Move) node got
fits_cause m answer dir last now node cause.Thaw got = dir.frozen && is_none got

-- the conditions of a decision
abbrev pub may_decide : Machine → Answer → Dir → Option ℕ → (now node : ℕ) → Cause → Option Frame → Bool
may_decide m answer dir last now node cause got = is_dir m dir && fits_cause m answer dir last now node cause got
