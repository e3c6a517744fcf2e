-- what a session has done so far, read off its phase
use Rattle.std.specs.Prelude.{ℕ, ◌==◌, nat_lt, not, slice_index, ◌&&◌, Bool, true, false, List, [], length, take, drop, Option, Some, None}
use Rattle.std.specs.Option.{option_map_or}
use Rattle.std.specs.List.{list_any}
use Rattle.plat_base.specs.Verdicts.{Answer}
use Rattle.plat_base.specs.Machine.{Machine}
use Rattle.plat_base.specs.Pages.{entries_of_page}
use Rattle.plat_base.specs.Copies.{same_frame}
use Rattle.plat_base.specs.Messages.{removes_some}
use Rattle.plat_base.specs.declared.frames.Frame.{Frame}
use Rattle.plat_base.specs.declared.items.Removed.{Removed}
use Rattle.plat_base.specs.declared.items.Removed.TheVariants as removed
use Rattle.plat_events.specs.Shootdowns.{Shot, Posting, PostingOn, Asking, Interrupting, Watching, AskingAgain, Target, targets}
use Rattle.plat_events.specs.Sessions.{Stamp, Course, Phase, Stamping, Seeking, Taking, Returning, Shooting, Filling, Reading, Copying}
use Rattle.plat_events.specs.Sessions.{Giving, Storing, Granting, Unlocking, Session, decision_of, going, by_distance}

-- the stamp that was read
abbrev pub stamp_of : Phase → Option Stamp
stamp_of Stamping = None
stamp_of (Seeking st i) = Some st
stamp_of (Taking st i seen) = Some st
stamp_of Returning = None
stamp_of (Shooting c shot) = Some c.stamp
stamp_of (Filling c w) = Some c.stamp
stamp_of (Reading c w) = Some c.stamp
stamp_of (Copying c w seen) = Some c.stamp
stamp_of (Giving c k) = Some c.stamp
stamp_of (Storing c) = Some c.stamp
stamp_of (Granting c) = Some c.stamp
stamp_of (Unlocking c) = Some c.stamp

-- the row of the table that was fixed
abbrev pub course_of : Phase → Option Course
course_of Stamping = None
course_of (Seeking st i) = None
course_of (Taking st i seen) = None
course_of Returning = None
course_of (Shooting c shot) = Some c
course_of (Filling c w) = Some c
course_of (Reading c w) = Some c
course_of (Copying c w seen) = Some c
course_of (Giving c k) = Some c
course_of (Storing c) = Some c
course_of (Granting c) = Some c
course_of (Unlocking c) = Some c

-- every post is made and every target is passed
abbrev pub is_quiet : Phase → Bool
is_quiet Stamping = false
is_quiet (Seeking st i) = false
is_quiet (Taking st i seen) = false
is_quiet Returning = false
is_quiet (Shooting c shot) = false
is_quiet (Filling c w) = true
is_quiet (Reading c w) = true
is_quiet (Copying c w seen) = true
is_quiet (Giving c k) = true
is_quiet (Storing c) = true
is_quiet (Granting c) = true
is_quiet (Unlocking c) = true

-- the stamp after the change is stored
abbrev pub is_stamped : Phase → Bool
is_stamped Stamping = false
is_stamped (Seeking st i) = false
is_stamped (Taking st i seen) = false
is_stamped Returning = false
is_stamped (Shooting c shot) = false
is_stamped (Filling c w) = false
is_stamped (Reading c w) = false
is_stamped (Copying c w seen) = false
is_stamped (Giving c k) = false
is_stamped (Storing c) = false
is_stamped (Granting c) = true
is_stamped (Unlocking c) = true

-- the course of a session whose unlock is next
abbrev pub unlocking_of : Phase → Option Course
unlocking_of Stamping = None
unlocking_of (Seeking st i) = None
unlocking_of (Taking st i seen) = None
unlocking_of Returning = None
unlocking_of (Shooting c shot) = None
unlocking_of (Filling c w) = None
unlocking_of (Reading c w) = None
unlocking_of (Copying c w seen) = None
unlocking_of (Giving c k) = None
unlocking_of (Storing c) = None
unlocking_of (Granting c) = None
unlocking_of (Unlocking c) = Some c

-- the words that are filled in the frame in hand
abbrev pub words_filled : Machine → Phase → ℕ
words_filled m Stamping = 0
words_filled m (Seeking st i) = 0
words_filled m (Taking st i seen) = 0
words_filled m Returning = 0
words_filled m (Shooting c shot) = 0
words_filled m (Filling c w) = w
words_filled m (Reading c w) = w
words_filled m (Copying c w seen) = w
words_filled m (Giving c k) = m.words
words_filled m (Storing c) = m.words
words_filled m (Granting c) = m.words
words_filled m (Unlocking c) = m.words

-- the word that was read for a copy, and its number
abbrev pub word_copied : Phase → Option (ℕ × ℕ)
word_copied Stamping = None
word_copied (Seeking st i) = None
word_copied (Taking st i seen) = None
word_copied Returning = None
word_copied (Shooting c shot) = None
word_copied (Filling c w) = None
word_copied (Reading c w) = None
word_copied (Copying c w seen) = Some (w, seen)
word_copied (Giving c k) = None
word_copied (Storing c) = None
word_copied (Granting c) = None
word_copied (Unlocking c) = None

abbrev pub shot_passed : Shot → ℕ
shot_passed Posting = 0
shot_passed (PostingOn seen) = 0
shot_passed (Asking k) = k
shot_passed (Interrupting k) = k
shot_passed (Watching k) = k
shot_passed (AskingAgain k) = k

-- the targets of these posts that are still to be passed
abbrev pub targets_left : List Target → Phase → List Target
targets_left ts Stamping = []
targets_left ts (Seeking st i) = []
targets_left ts (Taking st i seen) = []
targets_left ts Returning = []
targets_left ts (Shooting c shot) = drop (shot_passed shot) ts
targets_left ts (Filling c w) = []
targets_left ts (Reading c w) = []
targets_left ts (Copying c w seen) = []
targets_left ts (Giving c k) = []
targets_left ts (Storing c) = []
targets_left ts (Granting c) = []
targets_left ts (Unlocking c) = []

-- of the frames that go, those that are given back
abbrev pub frames_given : List Frame → Phase → List Frame
frames_given fs Stamping = []
frames_given fs (Seeking st i) = []
frames_given fs (Taking st i seen) = []
frames_given fs Returning = []
frames_given fs (Shooting c shot) = []
frames_given fs (Filling c w) = []
frames_given fs (Reading c w) = []
frames_given fs (Copying c w seen) = []
frames_given fs (Giving c k) = take k fs
frames_given fs (Storing c) = fs
frames_given fs (Granting c) = fs
frames_given fs (Unlocking c) = fs

-- ---- of the session of actor a at tick now

-- the frame in hand: taken, and not yet a copy of the page's directory
abbrev pub hand_of : Session → Option Frame
hand_of s = option_map_or (λ (c : Course). c.got) (course_of s.phase) None

-- what it removes; nothing while its row is not fixed
abbrev pub removes_by : Machine → Answer → (a now : ℕ) → Session → Removed
removes_by m answer a now s =
    option_map_or (λ c. (decision_of m answer a now s c).removed) (course_of s.phase) removed.Nothing

abbrev pub posts_of : Session → List ℕ
posts_of s = option_map_or (λ (c : Course). c.posts) (course_of s.phase) []

-- it removes something, and has posted to this entry, or found no reference there
abbrev pub has_posted : Machine → Answer → (a now : ℕ) → Session → (entry : ℕ) → Bool
has_posted m answer a now s e =
    removes_some (removes_by m answer a now s)
    && list_any (λ x. x == e) (take (length (posts_of s)) (entries_of_page m s.fault.page))

-- this processor is a target by this entry that it has not passed
abbrev pub waits_for : Machine → (a : ℕ) → Session → (entry q : ℕ) → Bool
waits_for m a s e q =
    list_any (λ (t : Target). t.entry == e && t.processor == q) (targets_left (targets m a s.fault.page (posts_of s)) s.phase)

-- it has given this frame back
abbrev pub has_given : Machine → Answer → (a now : ℕ) → Session → Frame → Bool
has_given m answer a now s f =
    option_map_or
    (λ c. list_any (same_frame f) (frames_given (going s.dir (decision_of m answer a now s c)) s.phase))
    (course_of s.phase) false

-- a processor's reference to this entry is set, and the unlock is to come
abbrev pub has_granted : Session → (entry : ℕ) → Bool
has_granted s e =
    option_map_or (λ (c : Course). option_map_or (λ x. x == e) s.fault.entry false) (unlocking_of s.phase) false

-- it took a frame from another module than the nearest
abbrev pub took_farther : Machine → (a : ℕ) → Course → Bool
took_farther m a c = option_map_or (λ (f : Frame). not (f.module == slice_index (by_distance m a) 0)) c.got false

-- of a session on an empty page: a pool that it read was 0
abbrev pub saw_no_frame : Machine → (a : ℕ) → Phase → Bool
saw_no_frame m a Stamping = false
saw_no_frame m a (Seeking st i) = nat_lt 0 i
saw_no_frame m a (Taking st i seen) = nat_lt 0 i
saw_no_frame m a Returning = not (a == m.nodes)
saw_no_frame m a (Shooting c shot) = took_farther m a c
saw_no_frame m a (Filling c w) = took_farther m a c
saw_no_frame m a (Reading c w) = took_farther m a c
saw_no_frame m a (Copying c w seen) = took_farther m a c
saw_no_frame m a (Giving c k) = took_farther m a c
saw_no_frame m a (Storing c) = took_farther m a c
saw_no_frame m a (Granting c) = took_farther m a c
saw_no_frame m a (Unlocking c) = took_farther m a c
