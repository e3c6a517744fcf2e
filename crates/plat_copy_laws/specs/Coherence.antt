-- what holds of copies, of frames and of shootdowns at every event, with sessions in flight
use Rattle.std.specs.Prelude.{◌≡◌, ◌⊎◌, ℕ, ◌<◌, false, true, Option, Some, None, is_some}
use Rattle.plat_base.specs.Verdicts.{Answer}
use Rattle.plat_base.specs.Machine.{Machine}
use Rattle.plat_base.specs.Pages.{page_of}
use Rattle.plat_base.specs.Messages.{removes_some}
use Rattle.plat_base.specs.declared.frames.Frame.{Frame}
use Rattle.plat_base.specs.declared.items.Removed.TheVariants as removed
use Rattle.plat_base.specs.declared.items.Right.TheVariants as right
use Rattle.plat_base.specs.declared.items.Translation.{Translation}
use Rattle.plat_base.specs.declared.words.WordName.TheVariants.{Cmap}
use Rattle.plat_events.specs.Words.{has_invalidate, has_restrict, has_message}
use Rattle.plat_events.specs.Places.{entry_count}
use Rattle.plat_events.specs.Shootdowns.{Shot, target_at}
use Rattle.plat_events.specs.Sessions.{Course, Shooting, Session}
use Rattle.plat_events.specs.Standings.{is_quiet, shot_passed, hand_of, removes_by, has_posted, waits_for, has_granted}
use Rattle.plat_events.specs.Kept.{Running, session_on, session_of, is_kept, effective, is_active, is_usable, word_at, private_of}
use Rattle.plat_events.specs.Views.{translation_of}
use Rattle.plat_events.specs.Runs.{Fine}
use Rattle.plat_events.specs.Shown.{is_free, flat_word, frame_word}

-- ---- copies

-- what the messages that wait for processor q leave of its translation of an entry
abbrev pub left_of : Machine → Fine → (q entry : ℕ) → Option Translation
left_of m s q e =
    effective (has_invalidate (word_at m s (Cmap e)) q) (has_restrict (word_at m s (Cmap e)) q) (translation_of m s q e)

-- processor q may reach a frame by its translation of an entry: the messages that wait leave it, or it may be used at once
pub record MayReach (m : Machine) (s : Fine) (q e : ℕ) (t : Translation) : Type 0 where
  pub has : translation_of m s q e ≡ Some t
  pub reaches : (is_some (left_of m s q e) ≡ true) ⊎ (is_usable m (private_of m s q) e ≡ true)

-- the frame is in the hand of a session of q itself, which has granted the entry: its unlock, which is next, makes it a copy
pub record IsGrantedHand (m : Machine) (s : Fine) (q e : ℕ) (f : Frame) : Type 0 where
  pub session : Session
  pub own : session_of (private_of m s q).place ≡ Some session
  pub on : session.fault.page ≡ page_of m e
  pub grants : has_granted session e ≡ true
  pub hand : hand_of session ≡ Some f

-- the frame has the words of flat memory of a page
abbrev pub IsCurrent : Machine → Fine → (page : ℕ) → Frame → Type 0
IsCurrent m s page f = (w : ℕ) → w < m.words → frame_word m s f w ≡ flat_word m s.history page w

-- the frame is a kept copy of the entry's page, or is granted and about to be one; in both cases it is current
pub record LeadsToCurrent (m : Machine) (answer : Answer) (s : Fine) (q e : ℕ) (f : Frame) : Type 0 where
  pub leads : (is_kept m answer s (page_of m e) f ≡ true) ⊎ IsGrantedHand m s q e f
  pub words : IsCurrent m s (page_of m e) f

-- every translation that a processor may reach a frame by leads to a current one
abbrev pub ReachesCurrent : Machine → Answer → Fine → Type 0
ReachesCurrent m answer s =
    (q e : ℕ) (t : Translation) → q < m.nodes → e < entry_count m → MayReach m s q e t → LeadsToCurrent m answer s q e t.grant.frame

-- ---- frames

-- a frame is a kept copy of one page at most, and then it is not free, and current
pub record AreApart (m : Machine) (answer : Answer) (s : Fine) : Type 0 where
  pub one_page :
      (p r : ℕ) (f : Frame) → p < m.pages → r < m.pages → is_kept m answer s p f ≡ true → is_kept m answer s r f ≡ true → p ≡ r
  pub not_free : (p : ℕ) (f : Frame) → p < m.pages → is_kept m answer s p f ≡ true → is_free m s f ≡ false
  pub current : (p : ℕ) (f : Frame) → p < m.pages → is_kept m answer s p f ≡ true → IsCurrent m s p f

-- ---- shootdowns

-- the session r on the entry's page has posted to the entry, and does not wait for processor q by it: q is a target that it
-- has passed, or had no reference at the post, or is the session's own and has not been granted the entry
pub record IsPassed (m : Machine) (answer : Answer) (s : Fine) (q e : ℕ) (r : Running) : Type 0 where
  pub on : session_on s.privates (page_of m e) ≡ Some r
  pub posted : has_posted m answer r.actor r.now r.session e ≡ true
  pub passed : waits_for m r.actor r.session e q ≡ false
  pub ungranted : r.actor ≡ q → has_granted r.session e ≡ false

-- the session r on the entry's page counts a target of its shootdown as passed that is processor q by the entry
pub record CountsPassed (m : Machine) (s : Fine) (q e : ℕ) (r : Running) : Type 0 where
  pub on : session_on s.privates (page_of m e) ≡ Some r
  pub course : Course
  pub shot : Shot
  pub shoots : r.session.phase ≡ Shooting course shot
  pub number : ℕ
  pub counted : number < shot_passed shot
  pub target : target_at m r.actor (page_of m e) course.posts number ≡ record { entry = e; processor = q }

pub record ShootdownsRemove (m : Machine) (answer : Answer) (s : Fine) : Type 0 where
  -- a target that a session counts as passed is passed, and behind the shootdown every processor is
  pub counted : (q e : ℕ) (r : Running) → CountsPassed m s q e r → IsPassed m answer s q e r
  pub quiet :
      (q e : ℕ) (r : Running) → q < m.nodes → e < entry_count m → session_on s.privates (page_of m e) ≡ Some r →
      is_quiet r.session.phase ≡ true → removes_some (removes_by m answer r.actor r.now r.session) ≡ true →
      (r.actor ≡ q → has_granted r.session e ≡ false) → IsPassed m answer s q e r
  -- where a processor is passed and could use a translation of the entry at once, it has none, or none with the right to write
  pub all :
      (q e : ℕ) (r : Running) → q < m.nodes → e < entry_count m → IsPassed m answer s q e r →
      removes_by m answer r.actor r.now r.session ≡ removed.All → is_usable m (private_of m s q) e ≡ true → translation_of m s q e ≡ None
  pub writes :
      (q e : ℕ) (r : Running) (t : Translation) → q < m.nodes → e < entry_count m → IsPassed m answer s q e r →
      removes_by m answer r.actor r.now r.session ≡ removed.Writes → is_usable m (private_of m s q) e ≡ true →
      translation_of m s q e ≡ Some t → t.grant.right ≡ right.Read

-- a processor with a session on a page has no message that waits for it at an entry of the page in its active space
abbrev pub OwesNothing : Machine → Fine → Type 0
OwesNothing m s =
    (q e : ℕ) (x : Session) → q < m.nodes → e < entry_count m → session_of (private_of m s q).place ≡ Some x →
    x.fault.page ≡ page_of m e → is_active m (private_of m s q) e ≡ true → has_message (word_at m s (Cmap e)) q ≡ false
