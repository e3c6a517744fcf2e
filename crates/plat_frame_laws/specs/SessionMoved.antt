-- an operation of a session that goes on: what it leaves of its actor and of the words, and what it owes of the entries of its page
use Rattle.std.specs.Prelude.{◌≡◌, ◌≢◌, ℕ, ◌<◌, Some, None, is_some}
use Rattle.plat_base.specs.Verdicts.{Answer}
use Rattle.plat_base.specs.Machine.{Machine}
use Rattle.plat_base.specs.Pages.{page_of}
use Rattle.plat_base.specs.declared.words.WordName.TheVariants as word
use Rattle.plat_events.specs.Words.{has_reference}
use Rattle.plat_events.specs.Places.{entry_count}
use Rattle.plat_events.specs.Sessions.{Session}
use Rattle.plat_events.specs.Privates.{Private, translation_at}
use Rattle.plat_events.specs.Kept.{activation_at, message_at, word_at}
use Rattle.plat_events.specs.Views.{EntryOk, HeldOk, InvalidateStays, view, held_view, translation_of}
use Rattle.plat_events.specs.Runs.{Fine}
use Rattle.plat_fine_laws.specs.Changes.{GoesOn}

-- what it leaves of its actor's private state: all but its place, and its translations of the page
pub record SessionLeaves (m : Machine) (page : ℕ) (p after : Private) (x : Session) : Type 0 where
  pub turns : after.turns ≡ p.turns
  pub now : after.now ≡ p.now
  pub guest : after.guest ≡ p.guest
  pub journal : after.journal ≡ p.journal
  pub pmap : (e : ℕ) → page_of m e ≢ page → translation_at after e ≡ translation_at p e
  pub goes : GoesOn (Some x) after.place
  -- it is in no activation scan, and about to apply no message
  pub scan : activation_at after.place ≡ None
  pub message : message_at m after after.place ≡ None

-- and of the words: all but those of frames and interrupts, and the masks of the page
pub record SessionWords (m : Machine) (page : ℕ) (s t : Fine) : Type 0 where
  pub time : word_at m t word.Time ≡ word_at m s word.Time
  pub live : word_at m t word.Live ≡ word_at m s word.Live
  pub acts : (q : ℕ) → q < m.nodes → word_at m t (word.Act q) ≡ word_at m s (word.Act q)
  pub dirs : (k : ℕ) → k < m.pages → word_at m t (word.Dir k) ≡ word_at m s (word.Dir k)
  pub stamps : (k : ℕ) → k < m.pages → word_at m t (word.Stamp k) ≡ word_at m s (word.Stamp k)
  pub masks : (e : ℕ) → e < entry_count m → page_of m e ≢ page → word_at m t (word.Cmap e) ≡ word_at m s (word.Cmap e)

-- what the invariant says of one processor and one entry
pub record PairOk (m : Machine) (answer : Answer) (s : Fine) (q e : ℕ) : Type 0 where
  pub reference : has_reference (word_at m s (word.Cmap e)) q ≡ is_some (translation_of m s q e)
  pub view_ok : EntryOk (view m answer s q e)
  pub stays : InvalidateStays (view m answer s q e)
  pub held : HeldOk (view m answer s q e) (held_view m s q e)
