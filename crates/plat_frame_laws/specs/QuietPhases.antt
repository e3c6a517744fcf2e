-- a phase behind the shootdown of a session, before its stamp is stored
use Rattle.std.specs.Prelude.{◌≡◌, ℕ, true, false, List, [], Option, Some, None}
use Rattle.plat_base.specs.Verdicts.{Answer}
use Rattle.plat_base.specs.Machine.{Machine}
use Rattle.plat_base.specs.declared.frames.Frame.{Frame}
use Rattle.plat_events.specs.Shootdowns.{Target}
use Rattle.plat_events.specs.Sessions.{Course, Phase, Session, decision_of, going}
use Rattle.plat_events.specs.Standings.{stamp_of, course_of, is_quiet, is_stamped, unlocking_of, words_filled, word_copied, targets_left}
use Rattle.plat_events.specs.Standings.{frames_given, took_farther, saw_no_frame}

-- phase ph of session x of actor a at tick now, of this course: so many words of the hand are filled, this word was read for a
-- copy, and these frames are given back
pub record QuietPhase (m : Machine) (answer : Answer) (a now : ℕ) (x : Session) (c : Course) (ph : Phase) (words : ℕ) (read : Option (ℕ ×
    ℕ)) (gone : List Frame) : Type 0 where
  pub course : course_of ph ≡ Some c
  pub stamp : stamp_of ph ≡ Some c.stamp
  pub quiet : is_quiet ph ≡ true
  pub left : (ts : List Target) → targets_left ts ph ≡ []
  pub unlocking : unlocking_of ph ≡ None
  pub stamped : is_stamped ph ≡ false
  pub filled : words_filled m ph ≡ words
  pub copied : word_copied ph ≡ read
  pub given : frames_given (going x.dir (decision_of m answer a now x c)) ph ≡ gone
  pub saw : saw_no_frame m a ph ≡ took_farther m a c
