-- what the invariant says of frames and their words: it holds on where these and the pages are as they were
use Rattle.std.specs.Prelude.{◌≡◌, ℕ, ◌+◌, ◌<◌, ◌&&◌, not, Some, IsTrue, sum_by}
use Rattle.std.proofs.Common.{sym, ◌∙◌}
use Rattle.plat_base.specs.Verdicts.{Answer}
use Rattle.plat_base.specs.Machine.{Machine}
use Rattle.plat_base.specs.Pages.{numbers}
use Rattle.plat_base.specs.Decide.{is_frame}
use Rattle.plat_base.specs.declared.frames.Frame.{Frame}
use Rattle.plat_base.specs.declared.words.WordName.TheVariants as word
use Rattle.plat_events.specs.Words.{has_bit, data_word}
use Rattle.plat_events.specs.Standings.{words_filled, word_copied, hand_of}
use Rattle.plat_events.specs.Kept.{Running, session_on, gave_back, is_copy_of, is_kept, word_at}
use Rattle.plat_events.specs.Runs.{Fine}
use Rattle.plat_events.specs.Shown.{bit_of, is_hand, uses_of, flat_word, frame_word, Shows}
use Rattle.plat_fine_laws.specs.Changes.{KeepsPage, KeepsFlat}

pub is_kept-same :
    (m : Machine) (answer : Answer) (s t : Fine) (page : ℕ) (f : Frame) → KeepsPage s t page →
    is_kept m answer t page f ≡ is_kept m answer s page f
is_kept-same m answer s t page f keeps = λ i. is_copy_of (keeps.dir i).copies f && not (gave_back m answer (keeps.session i) f)

pub flat_word-same :
    (m : Machine) (s t : Fine) (page w : ℕ) → KeepsFlat m s t page w → flat_word m t.history page w ≡ flat_word m s.history page w
flat_word-same m s t page w keeps = λ i. data_word (keeps.value i) (keeps.writes i)

module _ (m : Machine) (answer : Answer) (s t : Fine) (shows : Shows m answer s) where
  pub frames_once-kept :
      (f : Frame) → ((page : ℕ) → KeepsPage s t page) → word_at m t (word.Pool f.module) ≡ word_at m s (word.Pool f.module) →
      IsTrue (is_frame m f) → uses_of m answer t f ≡ 1
  frames_once-kept f keeps same frame =
      let there : uses_of m answer t f ≡ uses_of m answer s f =
      λ i. bit_of (has_bit (same i) f.number)
      + sum_by
      (λ p. bit_of (is_kept-same m answer s t p f (keeps p) i) + bit_of (is_hand ((keeps p).session i) f))
      (numbers m.pages) in
      there ∙ shows.frames_once f frame

module _ (m : Machine) (answer : Answer) (s t : Fine) (shows : Shows m answer s) (page : ℕ) (keeps : KeepsPage s t page) where
  pub kept_flat-kept :
      (w : ℕ) (f : Frame) → KeepsFlat m s t page w → frame_word m t f w ≡ frame_word m s f w → page < m.pages → w < m.words →
      IsTrue (is_kept m answer t page f) → frame_word m t f w ≡ flat_word m t.history page w
  kept_flat-kept w f flat same within inside kept =
      let before = shows.kept_flat page w f within inside (sym (is_kept-same m answer s t page f keeps) ∙ kept) in
      same ∙ (before ∙ sym (flat_word-same m s t page w flat))

  pub hand_flat-kept :
      (w : ℕ) (r : Running) (f : Frame) → KeepsFlat m s t page w → frame_word m t f w ≡ frame_word m s f w →
      session_on t.privates page ≡ Some r → hand_of r.session ≡ Some f → w < words_filled m r.session.phase →
      frame_word m t f w ≡ flat_word m t.history page w
  hand_flat-kept w r f flat same on hand filled =
      let before = shows.hand_flat page w r f (sym keeps.session ∙ on) hand filled in
      same ∙ (before ∙ sym (flat_word-same m s t page w flat))

  pub read_flat-kept :
      (r : Running) (x : ℕ × ℕ) → KeepsFlat m s t page x.0 → session_on t.privates page ≡ Some r →
      word_copied r.session.phase ≡ Some x → x.1 ≡ flat_word m t.history page x.0
  read_flat-kept r x flat on copied =
      shows.read_flat page r x (sym keeps.session ∙ on) copied ∙ sym (flat_word-same m s t page x.0 flat)
