-- the phases of a session whose frames are filled and given back: the store of its stamp, the grant and the unlock
use Rattle.std.specs.Prelude.{◌≡◌, ℕ, true, List, [], Some, None}
use Rattle.plat_base.specs.Machine.{Machine}
use Rattle.plat_base.specs.declared.frames.Frame.{Frame}
use Rattle.plat_events.specs.Shootdowns.{Target}
use Rattle.plat_events.specs.Sessions.{Course, Phase}
use Rattle.plat_events.specs.Standings.{stamp_of, course_of, is_quiet, words_filled, word_copied, targets_left, frames_given, took_farther}
use Rattle.plat_events.specs.Standings.{saw_no_frame}

pub record LastPhase (m : Machine) (a : ℕ) (c : Course) (ph : Phase) : Type 0 where
  pub course : course_of ph ≡ Some c
  pub stamp : stamp_of ph ≡ Some c.stamp
  pub quiet : is_quiet ph ≡ true
  pub left : (ts : List Target) → targets_left ts ph ≡ []
  pub filled : words_filled m ph ≡ m.words
  pub copied : word_copied ph ≡ None
  pub given : (fs : List Frame) → frames_given fs ph ≡ fs
  pub saw : saw_no_frame m a ph ≡ took_farther m a c
