-- a session goes on to another phase: what the invariant reads of the two, and of the frames beside
use Rattle.std.specs.Prelude.{◌≡◌, ◌≢◌, ℕ, ◌<◌, Bool, true, false, length, Option, Some, None, IsTrue}
use Rattle.plat_base.specs.Verdicts.{Answer}
use Rattle.plat_base.specs.Machine.{Machine}
use Rattle.plat_base.specs.Pages.{entries_of_page, page_of}
use Rattle.plat_base.specs.Copies.{copy_on}
use Rattle.plat_base.specs.Decide.{is_frame, is_empty}
use Rattle.plat_base.specs.Messages.{removes_some}
use Rattle.plat_base.specs.Rules.{HasEnoughFrames}
use Rattle.plat_base.specs.declared.frames.Frame.{Frame}
use Rattle.plat_base.specs.declared.items.Removed.TheVariants.{All}
use Rattle.plat_base.specs.declared.items.Translation.{Translation}
use Rattle.plat_base.specs.declared.words.WordName.{WordName}
use Rattle.plat_base.specs.declared.words.WordName.TheVariants as word
use Rattle.plat_events.specs.Sessions.{Stamp, Phase, Session, with_phase}
use Rattle.plat_events.specs.Standings.{stamp_of, is_stamped, is_quiet, words_filled, word_copied, hand_of, posts_of, removes_by}
use Rattle.plat_events.specs.Standings.{saw_no_frame}
use Rattle.plat_events.specs.Kept.{Running, session_on, is_kept}
use Rattle.plat_events.specs.Views.{SessionView, session_viewed}
use Rattle.plat_events.specs.Places.{entry_count}
use Rattle.plat_events.specs.Runs.{Fine}
use Rattle.plat_events.specs.Shown.{uses_of, flat_word, frame_word}

-- a word of a pool or of a frame
abbrev pub is_of_frames : WordName → Bool
is_of_frames word.Time = false
is_of_frames word.Live = false
is_of_frames (word.Act q) = false
is_of_frames (word.Intr q) = false
is_of_frames (word.Dir page) = false
is_of_frames (word.Stamp page) = false
is_of_frames (word.Cmap entry) = false
is_of_frames (word.Pool mo) = true
is_of_frames (word.Memory mo number w) = true

-- from x to y a session makes no post and passes no target; what it removes may be told only before its first post, and a
-- frame is given back only behind the posts of a session that removes all
pub record Continues (x y : SessionView) : Type 0 where
  pub whose : y.whose ≡ x.whose
  pub posted : y.posted ≡ x.posted
  pub owed : y.owed ≡ x.owed
  pub granted : y.granted ≡ x.granted
  pub mine : y.mine ≡ x.mine
  pub removes : x.posted ≡ true → y.removes ≡ x.removes
  pub gives : y.given ≡ true → x.given ≡ false → (x.posted ≡ true) × (x.removes ≡ All)

-- the session of actor a at tick now
abbrev pub running : (a now : ℕ) → Session → Running
running a now x = record { actor = a; now = now; session = x }

-- what a session owes of its next phase
pub record PhaseFollows (m : Machine) (answer : Answer) (a now : ℕ) (x : Session) (next : Phase) : Type 0 where
  -- its stamp was read before, and it has not stored another one
  pub stamp : (st : Stamp) → stamp_of next ≡ Some st → stamp_of x.phase ≡ Some st
  pub unstored : is_stamped x.phase ≡ false
  pub unstamped : is_stamped next ≡ false
  -- a frame in hand is on a module without a copy
  pub apart : (f : Frame) → hand_of (with_phase x next) ≡ Some f → copy_on f.module x.dir.copies ≡ None
  -- with enough frames it finds one
  pub finds : HasEnoughFrames m → IsTrue (is_empty x.dir.state) → saw_no_frame m a next ≡ false
  -- behind its shootdown it has made each post
  pub posts :
      IsTrue (is_quiet next) → IsTrue (removes_some (removes_by m answer a now (with_phase x next))) →
      length (posts_of (with_phase x next)) ≡ length (entries_of_page m x.fault.page)

-- and what it is to say of it, where it makes no post: a processor and an entry of the page see it go on
pub record PhaseGoes (m : Machine) (answer : Answer) (a now : ℕ) (x : Session) (next : Phase) : Type 0 where
  pub follows : PhaseFollows m answer a now x next
  pub continues :
      (q e : ℕ) (t : Option Translation) → e < entry_count m → page_of m e ≡ x.fault.page →
      Continues (session_viewed m answer q e t (running a now x)) (session_viewed m answer q e t (running a now (with_phase x next)))

-- what holds of the frames from s to t, where the session goes on to its next phase
pub record FramesGo (m : Machine) (answer : Answer) (s t : Fine) (x : Session) (next : Phase) : Type 0 where
  pub once : (f : Frame) → IsTrue (is_frame m f) → uses_of m answer t f ≡ 1
  -- what is kept was kept, with its words
  pub kept :
      (page w : ℕ) (f : Frame) → page < m.pages → w < m.words → is_kept m answer t page f ≡ true →
      (is_kept m answer s page f ≡ true) × (frame_word m t f w ≡ frame_word m s f w)
  -- the hands of other pages have their words
  pub hands :
      (page w : ℕ) (r : Running) (f : Frame) → page ≢ x.fault.page → session_on s.privates page ≡ Some r →
      hand_of r.session ≡ Some f → w < words_filled m r.session.phase → frame_word m t f w ≡ frame_word m s f w
  -- the words of the hand, and a word that was read
  pub filled :
      (w : ℕ) (f : Frame) → hand_of (with_phase x next) ≡ Some f → w < words_filled m next →
      frame_word m t f w ≡ flat_word m s.history x.fault.page w
  pub copied : (y : ℕ × ℕ) → word_copied next ≡ Some y → y.1 ≡ flat_word m s.history x.fault.page y.0
