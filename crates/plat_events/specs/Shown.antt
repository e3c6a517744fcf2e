-- the invariant of the shared state: what holds at the start and after every event of a live actor
use Rattle.std.specs.Prelude.{◌≡◌, ◌≢◌, ℕ, ◌+◌, ◌<◌, ◌≤◌, ◌==◌, not, if◌then◌else◌, Bool, false, List, [], ◌∷◌, length, sum_by, filter}
use Rattle.std.specs.Prelude.{count_by, Option, Some, None, is_some, IsTrue, take}
use Rattle.std.specs.List.{fold}
use Rattle.plat_base.specs.Verdicts.{Answer}
use Rattle.plat_base.specs.Machine.{Machine}
use Rattle.plat_base.specs.Pages.{numbers, entries_of_page}
use Rattle.plat_base.specs.Flat.{flat_value, flat_writes}
use Rattle.plat_base.specs.Directories.{dir_of, seq_of, last_of}
use Rattle.plat_base.specs.Held.{held, has_right}
use Rattle.plat_base.specs.Decide.{is_dir, is_frame, is_empty}
use Rattle.plat_base.specs.Copies.{same_frame, copy_on}
use Rattle.plat_base.specs.Messages.{removes_some}
use Rattle.plat_base.specs.Rules.{Good, HasEnoughFrames}
use Rattle.plat_base.specs.declared.frames.Frame.{Frame}
use Rattle.plat_base.specs.declared.items.Cause.{Cause}
use Rattle.plat_base.specs.declared.items.Cause.TheVariants as cause
use Rattle.plat_base.specs.declared.items.Kind.{Kind}
use Rattle.plat_base.specs.declared.items.Kind.TheVariants as kind
use Rattle.plat_base.specs.declared.items.Item.{Item}
use Rattle.plat_base.specs.declared.items.Item.TheVariants as item
use Rattle.plat_base.specs.declared.endings.End.{End}
use Rattle.plat_base.specs.declared.endings.End.TheVariants as end
use Rattle.plat_base.specs.declared.words.WordName.{WordName}
use Rattle.plat_base.specs.declared.words.WordName.TheVariants as word
use Rattle.std.specs.Option.{option_map_or}
use Rattle.plat_events.specs.Words.{has_bit, has_reference, dir_read, is_locked, stamp_word, data_word}
use Rattle.plat_events.specs.Places.{entry_count, word_count, is_name, is_word}
use Rattle.plat_events.specs.Sessions.{Stamp, Course, Session, decision_of, last_stored}
use Rattle.plat_events.specs.Privates.{Place, Polling, Looking, Applying, Ticking, Switching, Loading, Expecting, Exchanging, Locking}
use Rattle.plat_events.specs.Privates.{InSession, Leaving, Lessening, Gone, LiveLooking, TimeLooking, Over, Private, actor_count}
use Rattle.plat_events.specs.Privates.{first_private, is_over}
use Rattle.plat_events.specs.Events.{named_next, is_followed, after}
use Rattle.plat_events.specs.Standings.{stamp_of, course_of, is_stamped, is_quiet, words_filled, word_copied, hand_of, posts_of, removes_by}
use Rattle.plat_events.specs.Standings.{saw_no_frame}
use Rattle.plat_events.specs.Kept.{Running, session_on, session_of, is_kept, word_at, private_of, has_left}
use Rattle.plat_events.specs.Views.{EntryOk, HeldOk, InvalidateStays, view, held_view, translation_of}
use Rattle.plat_events.specs.Runs.{Fine, ends_of}

-- ---- small readings

abbrev pub bit_of : Bool → ℕ
bit_of b = if b then 1 else 0

-- the space + 1 that a processor is active in, or 0 where it has left
abbrev pub act_of : Private → ℕ
act_of p = if has_left p.place then 0 else p.guest.space + 1

abbrev pub goes_to : Place → Option End
goes_to (Polling onward) = None
goes_to (Looking i moment onward) = None
goes_to (Applying i message moment onward) = None
goes_to Ticking = None
goes_to (Switching space) = None
goes_to Loading = None
goes_to Expecting = None
goes_to (Exchanging seen) = None
goes_to (Locking fault) = None
goes_to (InSession session) = None
goes_to (Leaving e) = Some e
goes_to (Lessening e) = Some e
goes_to (Gone e) = Some e
goes_to LiveLooking = None
goes_to TimeLooking = None
goes_to Over = None

-- the frame is free in its module's pool
abbrev pub is_free : Machine → Fine → Frame → Bool
is_free m s f = has_bit (word_at m s (word.Pool f.module)) f.number

-- it is the frame in hand of the session on a page
abbrev pub is_hand : Option Running → Frame → Bool
is_hand r f = option_map_or (λ (x : Running). option_map_or (same_frame f) (hand_of x.session) false) r false

-- in how many places the frame is: in its pool, and on each page as a kept copy and in the hand of its session
abbrev pub uses_of : Machine → Answer → Fine → Frame → ℕ
uses_of m answer s f =
    bit_of (is_free m s f)
    + sum_by (λ p. bit_of (is_kept m answer s p f) + bit_of (is_hand (session_on s.privates p) f)) (numbers m.pages)

-- the word of flat memory: its value, and how often it was written
abbrev pub flat_word : Machine → List Item → (page w : ℕ) → ℕ
flat_word m items page w = data_word (flat_value m items page w) (flat_writes items page w)

abbrev pub frame_word : Machine → Fine → Frame → ℕ → ℕ
frame_word m s f w = word_at m s (word.Memory f.module f.number w)

-- the stamp of a page by the history; where its session has stored its stamp, by the change that is to come
abbrev pub stamp_after : Machine → Answer → List Item → (page : ℕ) → Running → Course → ℕ
stamp_after m answer items page r c =
    stamp_word (last_stored (decision_of m answer r.actor r.now r.session c) r.now (last_of items page)) (seq_of items page + 1)

abbrev pub stamp_by : Machine → Answer → List Item → (page : ℕ) → Option Running → ℕ
stamp_by m answer items page None = stamp_word (last_of items page) (seq_of items page)
stamp_by m answer items page (Some r) =
    if is_stamped r.session.phase
    then option_map_or (stamp_after m answer items page r) (course_of r.session.phase) 0
    else stamp_word (last_of items page) (seq_of items page)

abbrev pub kind_for : Cause → Kind
kind_for cause.Read = kind.Load
kind_for cause.Write = kind.Store
kind_for cause.Thaw = kind.Load

abbrev pub actor_of : Item → ℕ
actor_of (item.Access a) = a.actor
actor_of (item.Change c) = c.actor
actor_of (item.Applied x) = x.actor
actor_of (item.Switch s) = s.actor

-- the items of one actor
abbrev pub items_by : ℕ → List Item → List Item
items_by a items = filter (λ i. actor_of i == a) items

-- each of these numbers is followed by the actor when it is told it
abbrev pub AllFollowed : Machine → Answer → (a : ℕ) → Private → List ℕ → Type 0
AllFollowed m answer a p [] = Unit {0}
AllFollowed m answer a p (n ∷ ns) =
    IsTrue (is_followed m (named_next m answer a p p.place) n) × AllFollowed m answer a (after m answer a p n) ns

-- an actor that is told these numbers, one after another, comes from its start to this private state
abbrev pub IsReachedAlone : Machine → Answer → (a : ℕ) → Private → Type 0
IsReachedAlone m answer a p =
    (found : List ℕ) × AllFollowed m answer a (first_private m a) found × (fold (after m answer a) (first_private m a) found ≡ p)

-- ---- the invariant

pub record Shows (m : Machine) (answer : Answer) (s : Fine) : Type 0 where
  -- there is a word for each place, and a private state for each actor; every word is one that the machine may have
  pub all_words : length s.words ≡ word_count m
  pub all_privates : length s.privates ≡ actor_count m
  pub words_encoded : (name : WordName) → IsTrue (is_name m name) → IsTrue (is_word m name (word_at m s name))
  -- time is the sum of all turns, and no turn or pass is later; live counts the processors that have not ended
  pub time_is_turns : word_at m s word.Time ≡ sum_by (λ (p : Private). p.turns) s.privates
  pub times_past : (a : ℕ) → a < actor_count m → (private_of m s a).now ≤ word_at m s word.Time
  pub live_counts : word_at m s word.Live ≡ count_by (λ (p : Private). not (is_over p.place)) (take m.nodes s.privates)
  pub act_shows : (q : ℕ) → q < m.nodes → word_at m s (word.Act q) ≡ act_of (private_of m s q)
  -- a page is locked exactly where one actor has a session on it, and an actor has one at most
  pub lock_is_session : (page : ℕ) → page < m.pages → is_locked (word_at m s (word.Dir page)) ≡ is_some (session_on s.privates page)
  pub one_session :
      (a : ℕ) (x : Session) → a < actor_count m → session_of (private_of m s a).place ≡ Some x →
      session_on s.privates x.fault.page ≡ Some (record { actor = a; now = (private_of m s a).now; session = x })
  -- what a session has read is what the history says
  pub dir_read_is : (page : ℕ) (r : Running) → session_on s.privates page ≡ Some r → r.session.dir ≡ dir_of s.history page
  pub stamp_read_is :
      (page : ℕ) (r : Running) (st : Stamp) → session_on s.privates page ≡ Some r → stamp_of r.session.phase ≡ Some st →
      (st.last ≡ last_of s.history page) × (st.seq ≡ seq_of s.history page)
  -- directories and stamps are those of the history, but for a stamp that a session has stored
  pub dir_is_history : (page : ℕ) → page < m.pages → dir_read (word_at m s (word.Dir page)) ≡ dir_of s.history page
  pub stamp_is_history :
      (page : ℕ) → page < m.pages → word_at m s (word.Stamp page) ≡ stamp_by m answer s.history page (session_on s.privates page)
  pub copies_fit : (page : ℕ) → page < m.pages → IsTrue (is_dir m (dir_of s.history page))
  -- each frame is free, or a kept copy of one page, or in the hand of one session, and a page has one on each module at most
  pub frames_once : (f : Frame) → IsTrue (is_frame m f) → uses_of m answer s f ≡ 1
  pub hand_apart :
      (page : ℕ) (r : Running) (f : Frame) → session_on s.privates page ≡ Some r → hand_of r.session ≡ Some f →
      copy_on f.module (dir_of s.history page).copies ≡ None
  -- with enough frames no session on an empty page finds a pool empty, and no processor ends for want of frames
  pub enough_finds :
      HasEnoughFrames m → (page : ℕ) (r : Running) → session_on s.privates page ≡ Some r → IsTrue (is_empty r.session.dir.state) →
      saw_no_frame m r.actor r.session.phase ≡ false
  pub enough_stays : HasEnoughFrames m → (a : ℕ) → a < actor_count m → goes_to (private_of m s a).place ≢ Some end.NoFrames
  -- each word of a kept copy, each filled word of a hand and each word read for a copy is that of flat memory
  pub kept_flat :
      (page w : ℕ) (f : Frame) → page < m.pages → w < m.words → IsTrue (is_kept m answer s page f) →
      frame_word m s f w ≡ flat_word m s.history page w
  pub hand_flat :
      (page w : ℕ) (r : Running) (f : Frame) → session_on s.privates page ≡ Some r → hand_of r.session ≡ Some f →
      w < words_filled m r.session.phase → frame_word m s f w ≡ flat_word m s.history page w
  pub read_flat :
      (page : ℕ) (r : Running) (x : ℕ × ℕ) → session_on s.privates page ≡ Some r → word_copied r.session.phase ≡ Some x →
      x.1 ≡ flat_word m s.history page x.0
  -- a processor has a reference exactly where it has a translation; what always holds of the two, and of the history beside
  pub reference_is_pmap :
      (q e : ℕ) → q < m.nodes → e < entry_count m → has_reference (word_at m s (word.Cmap e)) q ≡ is_some (translation_of m s q e)
  pub views : (q e : ℕ) → q < m.nodes → e < entry_count m → EntryOk (view m answer s q e)
  pub invalidates_stay : (q e : ℕ) → q < m.nodes → e < entry_count m → InvalidateStays (view m answer s q e)
  pub held_is_pmap : (q e : ℕ) → q < m.nodes → e < entry_count m → HeldOk (view m answer s q e) (held_view m s q e)
  pub fault_not_held :
      (page e : ℕ) (r : Running) → session_on s.privates page ≡ Some r → r.session.fault.entry ≡ Some e →
      has_right (kind_for r.session.fault.cause) (held m s.history r.actor e) ≡ false
  -- a session copies, gives back, stores its stamp, grants and unlocks only after all its posts; then no target is left
  pub posts_made :
      (page : ℕ) (r : Running) → session_on s.privates page ≡ Some r → IsTrue (is_quiet r.session.phase) →
      IsTrue (removes_some (removes_by m answer r.actor r.now r.session)) → length (posts_of r.session) ≡ length (entries_of_page m page)
  -- the history so far is good with the ends so far, and each journal is its actor's part of it
  pub history_good : Good m answer s.history (ends_of m s.privates)
  pub journals_are_history : (a : ℕ) → a < actor_count m → (private_of m s a).journal ≡ items_by a s.history
  -- each private state is one that its actor alone comes to
  pub reached_alone : (a : ℕ) → a < actor_count m → IsReachedAlone m answer a (private_of m s a)
