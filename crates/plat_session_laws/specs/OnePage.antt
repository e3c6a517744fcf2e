-- one actor's operation on one page: what the invariant says of a page and of its entries, and what the operation leaves alone
use Rattle.std.specs.Prelude.{◌≡◌, ◌≢◌, ℕ, ◌<◌, ◌≤◌, ◌==◌, Bool, false, length, Option, Some, None, is_some, IsTrue}
use Rattle.plat_base.specs.Verdicts.{Answer}
use Rattle.plat_base.specs.Machine.{Machine}
use Rattle.plat_base.specs.Pages.{page_of, entries_of_page}
use Rattle.plat_base.specs.Directories.{dir_of, seq_of, last_of}
use Rattle.plat_base.specs.Held.{held, has_right}
use Rattle.plat_base.specs.Copies.{copy_on}
use Rattle.plat_base.specs.Decide.{is_dir, is_empty}
use Rattle.plat_base.specs.Messages.{removes_some}
use Rattle.plat_base.specs.Rules.{HasEnoughFrames}
use Rattle.plat_base.specs.declared.frames.Frame.{Frame}
use Rattle.plat_base.specs.declared.items.Item.{Item}
use Rattle.plat_base.specs.declared.endings.End.TheVariants as end
use Rattle.plat_base.specs.declared.words.WordName.{WordName}
use Rattle.plat_base.specs.declared.words.WordName.TheVariants as word
use Rattle.plat_events.specs.Words.{has_reference, dir_read, is_locked}
use Rattle.plat_events.specs.Places.{entry_count}
use Rattle.plat_events.specs.Sessions.{Stamp, Session}
use Rattle.plat_events.specs.Privates.{Private, is_over}
use Rattle.plat_events.specs.Events.{with_item}
use Rattle.plat_events.specs.Standings.{stamp_of, is_quiet, words_filled, word_copied, hand_of, posts_of, removes_by, saw_no_frame}
use Rattle.plat_events.specs.Kept.{Running, session_on, session_of, is_kept, gave_back, has_left, activation_at, message_at, word_at}
use Rattle.plat_events.specs.Views.{EntryOk, HeldOk, InvalidateStays, View, SessionView, HeldView, view, held_view, translation_of}
use Rattle.plat_events.specs.Views.{place_view}
use Rattle.plat_events.specs.Runs.{Fine, end_at}
use Rattle.plat_events.specs.Shown.{goes_to, is_hand, kind_for, stamp_by, flat_word, frame_word}
use Rattle.plat_fine_laws.specs.Changes.{IsBy, KeepsPage, KeepsFlat}

-- the directory, the stamp and the masks of a page
abbrev pub is_of_page : Machine → (page : ℕ) → WordName → Bool
is_of_page m page word.Time = false
is_of_page m page word.Live = false
is_of_page m page (word.Act q) = false
is_of_page m page (word.Intr q) = false
is_of_page m page (word.Dir k) = k == page
is_of_page m page (word.Stamp k) = k == page
is_of_page m page (word.Cmap e) = page_of m e == page
is_of_page m page (word.Pool mo) = false
is_of_page m page (word.Memory mo number w) = false

-- what the invariant says of one page and of the session on it
pub record ShowsPage (m : Machine) (answer : Answer) (t : Fine) (page : ℕ) : Type 0 where
  pub lock : is_locked (word_at m t (word.Dir page)) ≡ is_some (session_on t.privates page)
  pub dir_read_is : (r : Running) → session_on t.privates page ≡ Some r → r.session.dir ≡ dir_of t.history page
  pub stamp_read_is :
      (r : Running) (st : Stamp) → session_on t.privates page ≡ Some r → stamp_of r.session.phase ≡ Some st →
      (st.last ≡ last_of t.history page) × (st.seq ≡ seq_of t.history page)
  pub dir_is : dir_read (word_at m t (word.Dir page)) ≡ dir_of t.history page
  pub stamp_is : word_at m t (word.Stamp page) ≡ stamp_by m answer t.history page (session_on t.privates page)
  pub copies_fit : IsTrue (is_dir m (dir_of t.history page))
  pub hand_apart :
      (r : Running) (f : Frame) → session_on t.privates page ≡ Some r → hand_of r.session ≡ Some f →
      copy_on f.module (dir_of t.history page).copies ≡ None
  pub enough_finds :
      HasEnoughFrames m → (r : Running) → session_on t.privates page ≡ Some r → IsTrue (is_empty r.session.dir.state) →
      saw_no_frame m r.actor r.session.phase ≡ false
  pub kept_flat :
      (w : ℕ) (f : Frame) → w < m.words → IsTrue (is_kept m answer t page f) → frame_word m t f w ≡ flat_word m t.history page w
  pub hand_flat :
      (w : ℕ) (r : Running) (f : Frame) → session_on t.privates page ≡ Some r → hand_of r.session ≡ Some f →
      w < words_filled m r.session.phase → frame_word m t f w ≡ flat_word m t.history page w
  pub read_flat :
      (r : Running) (x : ℕ × ℕ) → session_on t.privates page ≡ Some r → word_copied r.session.phase ≡ Some x →
      x.1 ≡ flat_word m t.history page x.0
  pub fault_not_held :
      (e : ℕ) (r : Running) → session_on t.privates page ≡ Some r → r.session.fault.entry ≡ Some e →
      has_right (kind_for r.session.fault.cause) (held m t.history r.actor e) ≡ false
  pub posts_made :
      (r : Running) → session_on t.privates page ≡ Some r → IsTrue (is_quiet r.session.phase) →
      IsTrue (removes_some (removes_by m answer r.actor r.now r.session)) → length (posts_of r.session) ≡ length (entries_of_page m page)

-- and of a processor and an entry
pub record ShowsEntry (m : Machine) (answer : Answer) (t : Fine) (q e : ℕ) : Type 0 where
  pub reference : has_reference (word_at m t (word.Cmap e)) q ≡ is_some (translation_of m t q e)
  pub view_ok : EntryOk (view m answer t q e)
  pub invalidate_stays : InvalidateStays (view m answer t q e)
  pub held_ok : HeldOk (view m answer t q e) (held_view m t q e)

-- an operation leaves all other pages, with their translations and what the history says of them
pub record LeavesOthers (m : Machine) (s t : Fine) (page : ℕ) : Type 0 where
  pub pages : (k : ℕ) → k ≢ page → KeepsPage s t k
  pub flat : (k w : ℕ) → k ≢ page → KeepsFlat m s t k w
  pub holds : (q e : ℕ) → e < entry_count m → page_of m e ≢ page → held m t.history q e ≡ held m s.history q e
  pub translations : (q e : ℕ) → page_of m e ≢ page → translation_of m t q e ≡ translation_of m s q e
  pub faults :
      (k e : ℕ) (r : Running) → k ≢ page → session_on s.privates k ≡ Some r → r.session.fault.entry ≡ Some e →
      held m t.history r.actor e ≡ held m s.history r.actor e

-- what it leaves of its actor's private state, whose session, before and after, is on the page
pub record ActorGoes (m : Machine) (a : ℕ) (before after : Private) (made : Option Item) (page : ℕ) : Type 0 where
  pub turns : after.turns ≡ before.turns
  pub now : after.now ≡ before.now
  pub space : after.guest.space ≡ before.guest.space
  pub journal : after.journal ≡ with_item before.journal made
  pub own : IsBy a made
  pub over : a < m.nodes → is_over after.place ≡ is_over before.place
  pub left : a < m.nodes → has_left after.place ≡ has_left before.place
  pub ended : a < m.nodes → end_at after.place ≡ end_at before.place
  pub framed : HasEnoughFrames m → goes_to after.place ≢ Some end.NoFrames
  pub places : (e : ℕ) → place_view m after e ≡ place_view m before e
  pub was_on : (x : Session) → session_of before.place ≡ Some x → x.fault.page ≡ page
  pub is_on : (x : Session) → session_of after.place ≡ Some x → x.fault.page ≡ page

-- from one session on a page to another, or to none, while the history stays: what is owed of the session that comes, and of
-- the words of the page
pub record SessionGoes (m : Machine) (answer : Answer) (s t : Fine) (page : ℕ) (old new : Option Running) : Type 0 where
  pub lock : is_locked (word_at m t (word.Dir page)) ≡ is_some new
  pub dir : dir_read (word_at m t (word.Dir page)) ≡ dir_read (word_at m s (word.Dir page))
  pub stamp : word_at m t (word.Stamp page) ≡ stamp_by m answer s.history page new
  pub dir_read_is : (r : Running) → new ≡ Some r → r.session.dir ≡ dir_of s.history page
  pub stamp_read_is :
      (r : Running) (st : Stamp) → new ≡ Some r → stamp_of r.session.phase ≡ Some st →
      (st.last ≡ last_of s.history page) × (st.seq ≡ seq_of s.history page)
  pub finds :
      HasEnoughFrames m → (r : Running) → new ≡ Some r → IsTrue (is_empty r.session.dir.state) →
      saw_no_frame m r.actor r.session.phase ≡ false
  -- its hand was in hand before, with no more words filled, and no word was read for a copy
  pub hand :
      (r : Running) (f : Frame) → new ≡ Some r → hand_of r.session ≡ Some f →
      (x : Running) × (old ≡ Some x) × (hand_of x.session ≡ Some f) × (words_filled m r.session.phase ≤ words_filled m x.session.phase)
  pub copied : (r : Running) → new ≡ Some r → word_copied r.session.phase ≡ None
  pub back : (f : Frame) → gave_back m answer new f ≡ gave_back m answer old f
  pub in_hand : (f : Frame) → is_hand new f ≡ is_hand old f
  pub not_held :
      (e : ℕ) (r : Running) → new ≡ Some r → r.session.fault.entry ≡ Some e →
      has_right (kind_for r.session.fault.cause) (held m s.history r.actor e) ≡ false
  pub posts :
      (r : Running) → new ≡ Some r → IsTrue (is_quiet r.session.phase) →
      IsTrue (removes_some (removes_by m answer r.actor r.now r.session)) → length (posts_of r.session) ≡ length (entries_of_page m page)

-- what always holds of a view, beside what the history says
pub record ViewOk (v : View) (h : HeldView) : Type 0 where
  pub ok : EntryOk v
  pub waits : InvalidateStays v
  pub held : HeldOk v h

-- a session that has posted, passed, granted and given back nothing yet, as a processor and an entry see it
pub record IsUnposted (x : SessionView) : Type 0 where
  pub posted : x.posted ≡ false
  pub owed : x.owed ≡ false
  pub granted : x.granted ≡ false
  pub given : x.given ≡ false
  pub mine : x.mine ≡ false

-- a place of an actor that has not ended, without a scan and without a message
pub record IsSteady (m : Machine) (p : Private) : Type 0 where
  pub over : is_over p.place ≡ false
  pub left : has_left p.place ≡ false
  pub ended : end_at p.place ≡ end.Cut
  pub scan : activation_at p.place ≡ None
  pub message : message_at m p p.place ≡ None
