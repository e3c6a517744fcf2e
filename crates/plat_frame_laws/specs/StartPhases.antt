-- a phase before the first post of a session, or behind a shootdown without posts: where a frame is sought, and where the row
-- has just been fixed
use Rattle.std.specs.Prelude.{◌≡◌, ℕ, true, false, List, [], length, Option, Some, None}
use Rattle.plat_base.specs.Verdicts.{Answer}
use Rattle.plat_base.specs.Machine.{Machine}
use Rattle.plat_base.specs.Pages.{entries_of_page}
use Rattle.plat_base.specs.Messages.{removes_some}
use Rattle.plat_base.specs.declared.frames.Frame.{Frame}
use Rattle.plat_events.specs.Shootdowns.{Target}
use Rattle.plat_events.specs.Sessions.{Stamp, Phase, Session, with_phase}
use Rattle.plat_events.specs.Standings.{stamp_of, is_quiet, is_stamped, unlocking_of, words_filled, word_copied, targets_left, hand_of}
use Rattle.plat_events.specs.Standings.{posts_of, removes_by, has_given}

-- phase ph of session x of actor a at tick now, which has read this stamp and has got this frame, or none
pub record StartPhase (m : Machine) (answer : Answer) (a now : ℕ) (x : Session) (st : Stamp) (got : Option Frame) (ph : Phase) : Type 0
  where
    pub stamp : (u : Stamp) → stamp_of ph ≡ Some u → u ≡ st
    pub hand : hand_of (with_phase x ph) ≡ got
    pub posts : posts_of (with_phase x ph) ≡ []
    pub left : (ts : List Target) → ts ≡ [] → targets_left ts ph ≡ []
    pub unlocking : unlocking_of ph ≡ None
    pub stamped : is_stamped ph ≡ false
    pub copied : word_copied ph ≡ None
    pub given : (f : Frame) → has_given m answer a now (with_phase x ph) f ≡ false
    -- no word of the frame in hand is filled
    pub filled : (f : Frame) → got ≡ Some f → words_filled m ph ≡ 0
    -- it is behind the shootdown only where it removes nothing, or where the page has no entries
    pub quiet :
        is_quiet ph ≡ true → removes_some (removes_by m answer a now (with_phase x ph)) ≡ true → 0 ≡ length (entries_of_page m x.fault.page)
