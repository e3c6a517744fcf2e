-- a session in its shootdown or just behind it, and what an operation of the shootdown leaves
use Rattle.std.specs.Prelude.{◌≡◌, ◌≢◌, ℕ, ◌<◌, Bool, true, false, [], length, drop, Some, None, IsTrue}
use Rattle.plat_base.specs.Verdicts.{Answer}
use Rattle.plat_base.specs.Machine.{Machine}
use Rattle.plat_base.specs.Pages.{entries_of_page, page_of}
use Rattle.plat_base.specs.declared.frames.Frame.{Frame}
use Rattle.plat_base.specs.declared.words.WordName.{WordName}
use Rattle.plat_base.specs.declared.words.WordName.TheVariants as word
use Rattle.plat_events.specs.Places.{entry_count, is_name}
use Rattle.plat_events.specs.Shootdowns.{targets}
use Rattle.plat_events.specs.Sessions.{Course, Phase, Session, decision_of, going}
use Rattle.plat_events.specs.Standings.{stamp_of, course_of, is_quiet, is_stamped, unlocking_of, words_filled, word_copied, targets_left}
use Rattle.plat_events.specs.Standings.{frames_given, took_farther, saw_no_frame}
use Rattle.plat_events.specs.Kept.{word_at}
use Rattle.plat_events.specs.Runs.{Fine}

-- phase ph of session x of actor a at tick now, in the shootdown of course c or just behind it: k targets are passed
pub record ShotPhase (m : Machine) (answer : Answer) (a now : ℕ) (x : Session) (c : Course) (k : ℕ) (ph : Phase) : Type 0 where
  pub course : course_of ph ≡ Some c
  pub stamp : stamp_of ph ≡ Some c.stamp
  pub unlocking : unlocking_of ph ≡ None
  pub stamped : is_stamped ph ≡ false
  pub copied : word_copied ph ≡ None
  pub given : frames_given (going x.dir (decision_of m answer a now x c)) ph ≡ []
  -- no word of the frame in hand is filled
  pub filled : (f : Frame) → c.got ≡ Some f → words_filled m ph ≡ 0
  pub saw : saw_no_frame m a ph ≡ took_farther m a c
  pub left : targets_left (targets m a x.fault.page c.posts) ph ≡ drop k (targets m a x.fault.page c.posts)
  -- it is behind the shootdown only where each entry of the page was posted to
  pub posted : is_quiet ph ≡ true → length c.posts ≡ length (entries_of_page m x.fault.page)

-- not an interrupt, and not the mask of an entry
abbrev pub is_steady : WordName → Bool
is_steady word.Time = true
is_steady word.Live = true
is_steady (word.Act q) = true
is_steady (word.Intr q) = false
is_steady (word.Dir page) = true
is_steady (word.Stamp page) = true
is_steady (word.Cmap entry) = false
is_steady (word.Pool mo) = true
is_steady (word.Memory mo number w) = true

-- what an operation of a shootdown leaves of the words: all but interrupts, and the masks of the page
pub record ShotWords (m : Machine) (page : ℕ) (s t : Fine) : Type 0 where
  pub steady : (name : WordName) → IsTrue (is_name m name) → is_steady name ≡ true → word_at m t name ≡ word_at m s name
  pub masks : (e : ℕ) → e < entry_count m → page_of m e ≢ page → word_at m t (word.Cmap e) ≡ word_at m s (word.Cmap e)
