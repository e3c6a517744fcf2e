-- what one operation changes in the shared state, and what it leaves as it was
use Rattle.std.specs.Prelude.{◌≡◌, ◌≢◌, ℕ, ◌<◌, nat_lt, Bool, true, false, List, Option, Some, is_some, IsTrue, slice_set}
use Rattle.plat_base.specs.Verdicts.{Answer}
use Rattle.plat_base.specs.Machine.{Machine}
use Rattle.plat_base.specs.Directories.{dir_of, seq_of, last_of}
use Rattle.plat_base.specs.Flat.{flat_value, flat_writes}
use Rattle.plat_base.specs.Held.{held, has_right, later}
use Rattle.plat_base.specs.Rules.{HasEnoughFrames}
use Rattle.plat_base.specs.declared.frames.Frame.{Frame}
use Rattle.plat_base.specs.declared.items.Item.{Item}
use Rattle.plat_base.specs.declared.items.Removed.{Removed}
use Rattle.plat_base.specs.declared.endings.End.TheVariants as end
use Rattle.plat_base.specs.declared.words.WordName.{WordName}
use Rattle.plat_base.specs.declared.words.WordName.TheVariants.{Time, Live, Act, Intr, Dir, Stamp, Cmap, Pool, Memory}
use Rattle.plat_events.specs.Words.{has_reference}
use Rattle.plat_events.specs.Places.{entry_count, place_of, is_name}
use Rattle.plat_events.specs.Sessions.{Session}
use Rattle.plat_events.specs.Privates.{Place, Private, is_over}
use Rattle.plat_events.specs.Events.{with_item}
use Rattle.plat_events.specs.Standings.{words_filled, word_copied, hand_of}
use Rattle.plat_events.specs.Kept.{Running, is_kept, running_of, session_on, session_of, has_left, word_at, private_of}
use Rattle.plat_events.specs.Views.{EntryOk, HeldOk, InvalidateStays, view, held_view, translation_of, place_view}
use Rattle.plat_events.specs.Runs.{Fine, end_at}
use Rattle.plat_events.specs.Shown.{goes_to, actor_of, kind_for, flat_word, frame_word}

-- from s to t one word gets a new number, one actor a new private state, and the history one more item or none
pub record Changes (m : Machine) (s t : Fine) (a : ℕ) (name : WordName) (word : ℕ) (p : Private) (item : Option Item) : Type 0 where
  pub words : t.words ≡ slice_set s.words (place_of m name) word
  pub privates : t.privates ≡ slice_set s.privates a p
  pub history : t.history ≡ with_item s.history item

-- t has the session on a page that s has, and the history says the same of the page
pub record KeepsPage (s t : Fine) (page : ℕ) : Type 0 where
  pub session : session_on t.privates page ≡ session_on s.privates page
  pub dir : dir_of t.history page ≡ dir_of s.history page
  pub seq : seq_of t.history page ≡ seq_of s.history page
  pub last : last_of t.history page ≡ last_of s.history page
  pub removals : (test : Removed → Bool) (seq : ℕ) → later test t.history page seq ≡ later test s.history page seq

-- and of a word of the page
pub record KeepsFlat (m : Machine) (s t : Fine) (page word : ℕ) : Type 0 where
  pub value : flat_value m t.history page word ≡ flat_value m s.history page word
  pub writes : flat_writes t.history page word ≡ flat_writes s.history page word

-- processor q has the translation of an entry and stands to it in t as in s, and the history says the same of them
pub record KeepsEntry (m : Machine) (s t : Fine) (q entry : ℕ) : Type 0 where
  pub mask : word_at m t (Cmap entry) ≡ word_at m s (Cmap entry)
  pub translation : translation_of m t q entry ≡ translation_of m s q entry
  pub place : place_view m (private_of m t q) entry ≡ place_view m (private_of m s q) entry
  pub held : held m t.history q entry ≡ held m s.history q entry

-- what an operation leaves of its actor's private state that changes neither a translation nor a session: its turns, its space,
-- its translations, its items and its session; a processor that has not ended goes on, and not for want of a frame
pub record Moves (m : Machine) (a : ℕ) (p after : Private) : Type 0 where
  pub turns : after.turns ≡ p.turns
  pub space : after.guest.space ≡ p.guest.space
  pub pmap : after.pmap ≡ p.pmap
  pub journal : after.journal ≡ p.journal
  pub running : running_of (a, after) ≡ running_of (a, p)
  pub over : a < m.nodes → is_over after.place ≡ is_over p.place
  pub left : a < m.nodes → has_left after.place ≡ has_left p.place
  pub ended : a < m.nodes → end_at after.place ≡ end_at p.place
  pub framed : HasEnoughFrames m → goes_to after.place ≢ Some end.NoFrames

-- what the invariant says of all entries of one processor, but for its references
pub record AreEntriesOk (m : Machine) (answer : Answer) (s : Fine) (q : ℕ) : Type 0 where
  pub views : (e : ℕ) → e < entry_count m → EntryOk (view m answer s q e)
  pub invalidates_stay : (e : ℕ) → e < entry_count m → InvalidateStays (view m answer s q e)
  pub held_is_pmap : (e : ℕ) → e < entry_count m → HeldOk (view m answer s q e) (held_view m s q e)

-- the words that the invariant reads, and those of frames and modules that the machine may lack; not the interrupts
abbrev pub is_read : Machine → WordName → Bool
is_read m Time = true
is_read m Live = true
is_read m (Act q) = nat_lt q m.nodes
is_read m (Intr q) = false
is_read m (Dir page) = true
is_read m (Stamp page) = true
is_read m (Cmap entry) = true
is_read m (Pool mo) = true
is_read m (Memory mo number w) = true

-- each of these words has its number in t as in s
abbrev pub KeepsWords : Machine → Fine → Fine → Type 0
KeepsWords m s t = (name : WordName) → IsTrue (is_read m name) → word_at m t name ≡ word_at m s name

-- a place of an actor that has not ended, with this session, and that does not end for want of a frame
pub record GoesOn (runs : Option Session) (place : Place) : Type 0 where
  pub session : session_of place ≡ runs
  pub over : is_over place ≡ false
  pub left : has_left place ≡ false
  pub ended : end_at place ≡ end.Cut
  pub framed : goes_to place ≢ Some end.NoFrames

-- an item, if there is one, is this actor's
abbrev pub IsBy : ℕ → Option Item → Type 0
IsBy a made = (i : Item) → made ≡ Some i → actor_of i ≡ a

-- what an operation leaves of its actor's private state that keeps its translations and its session; it makes an item or none
pub record Stays (m : Machine) (a : ℕ) (p after : Private) (made : Option Item) : Type 0 where
  pub pmap : after.pmap ≡ p.pmap
  pub running : running_of (a, after) ≡ running_of (a, p)
  pub journal : after.journal ≡ with_item p.journal made
  pub own : IsBy a made
  pub framed : HasEnoughFrames m → goes_to after.place ≢ Some end.NoFrames

-- more items say the same of pages and of translations
pub record LeavesPages (m : Machine) (items more : List Item) : Type 0 where
  pub dir : (page : ℕ) → dir_of more page ≡ dir_of items page
  pub seq : (page : ℕ) → seq_of more page ≡ seq_of items page
  pub last : (page : ℕ) → last_of more page ≡ last_of items page
  pub removals : (test : Removed → Bool) (page seq : ℕ) → later test more page seq ≡ later test items page seq
  pub held : (q entry : ℕ) → held m more q entry ≡ held m items q entry

-- the words of pages, entries and pools
abbrev pub is_page_word : WordName → Bool
is_page_word Time = false
is_page_word Live = false
is_page_word (Act q) = false
is_page_word (Intr q) = false
is_page_word (Dir page) = true
is_page_word (Stamp page) = true
is_page_word (Cmap entry) = true
is_page_word (Pool mo) = true
is_page_word (Memory mo number w) = false

abbrev pub KeepsPageWords : Machine → Fine → Fine → Type 0
KeepsPageWords m s t =
    (name : WordName) → IsTrue (is_page_word name) → IsTrue (is_name m name) → word_at m t name ≡ word_at m s name

-- what the invariant says of the words of frames
pub record ShowsFlat (m : Machine) (answer : Answer) (s : Fine) : Type 0 where
  pub kept_flat :
      (page w : ℕ) (f : Frame) → page < m.pages → w < m.words → IsTrue (is_kept m answer s page f) →
      frame_word m s f w ≡ flat_word m s.history page w
  pub hand_flat :
      (page w : ℕ) (r : Running) (f : Frame) → session_on s.privates page ≡ Some r → hand_of r.session ≡ Some f →
      w < words_filled m r.session.phase → frame_word m s f w ≡ flat_word m s.history page w
  pub read_flat :
      (page : ℕ) (r : Running) (x : ℕ × ℕ) → session_on s.privates page ≡ Some r → word_copied r.session.phase ≡ Some x →
      x.1 ≡ flat_word m s.history page x.0

-- more items say the same of the directories of pages, and of what was removed
pub record LeavesDirs (items more : List Item) : Type 0 where
  pub dir : (page : ℕ) → dir_of more page ≡ dir_of items page
  pub seq : (page : ℕ) → seq_of more page ≡ seq_of items page
  pub last : (page : ℕ) → last_of more page ≡ last_of items page
  pub removals : (test : Removed → Bool) (page seq : ℕ) → later test more page seq ≡ later test items page seq

-- the words of pages and pools
abbrev pub is_table_word : WordName → Bool
is_table_word Time = false
is_table_word Live = false
is_table_word (Act q) = false
is_table_word (Intr q) = false
is_table_word (Dir page) = true
is_table_word (Stamp page) = true
is_table_word (Cmap entry) = false
is_table_word (Pool mo) = true
is_table_word (Memory mo number w) = false

abbrev pub KeepsTableWords : Machine → Fine → Fine → Type 0
KeepsTableWords m s t =
    (name : WordName) → IsTrue (is_table_word name) → IsTrue (is_name m name) → word_at m t name ≡ word_at m s name

-- what the invariant says of processors and entries
pub record ShowsEntries (m : Machine) (answer : Answer) (s : Fine) : Type 0 where
  pub reference_is_pmap :
      (q e : ℕ) → q < m.nodes → e < entry_count m → has_reference (word_at m s (Cmap e)) q ≡ is_some (translation_of m s q e)
  pub views : (q e : ℕ) → q < m.nodes → e < entry_count m → EntryOk (view m answer s q e)
  pub invalidates_stay : (q e : ℕ) → q < m.nodes → e < entry_count m → InvalidateStays (view m answer s q e)
  pub held_is_pmap : (q e : ℕ) → q < m.nodes → e < entry_count m → HeldOk (view m answer s q e) (held_view m s q e)
  pub fault_not_held :
      (page e : ℕ) (r : Running) → session_on s.privates page ≡ Some r → r.session.fault.entry ≡ Some e →
      has_right (kind_for r.session.fault.cause) (held m s.history r.actor e) ≡ false
