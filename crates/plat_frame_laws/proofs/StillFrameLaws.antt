-- what holds of the frames where each of their words is as it was
use Rattle.std.specs.Prelude.{◌≡◌, ℕ, ◌<◌, ◌&&◌, Bool, true, false, Some, None, IsTrue}
use Rattle.std.proofs.Common.{refl, ◌∙◌}
use Rattle.plat_base.specs.Verdicts.{Answer}
use Rattle.plat_base.specs.Machine.{Machine}
use Rattle.plat_base.specs.Decide.{is_frame}
use Rattle.plat_base.specs.declared.frames.Frame.{Frame}
use Rattle.plat_base.specs.declared.words.WordName.{WordName}
use Rattle.plat_base.specs.declared.words.WordName.TheVariants as word
use Rattle.plat_events.specs.Sessions.{Phase, Session, with_phase}
use Rattle.plat_events.specs.Privates.{Private}
use Rattle.plat_events.specs.Standings.{hand_of, words_filled, word_copied}
use Rattle.plat_events.specs.Kept.{session_on, is_kept, word_at}
use Rattle.plat_events.specs.Runs.{Fine}
use Rattle.plat_events.specs.Shown.{uses_of, flat_word, frame_word, Shows}
use Rattle.plat_laws.specs.Guests.{IsWithinLimits}
use Rattle.plat_fine_laws.specs.Changes.{Changes}
use Rattle.plat_fine_laws.proofs.WordLaws.{word_at-other, KeepsWords-loaded}
use Rattle.plat_frame_laws.specs.Phased.{running, FramesGo}
use Rattle.plat_frame_laws.proofs.HandLaws.{HandOk, hand-machine, kept-frame}
use Rattle.plat_frame_laws.proofs.StoreLaws.{memory-named, pool-named}

-- each word of each frame of the machine is as it was
abbrev pub KeepsFrames : Machine → Fine → Fine → Type 0
KeepsFrames m s t = (f : Frame) (w : ℕ) → is_frame m f ≡ true → w < m.words → frame_word m t f w ≡ frame_word m s f w

pub KeepsFrames-loaded :
    (m : Machine) (s t : Fine) (a : ℕ) (name : WordName) (p : Private) → Changes m s t a name (word_at m s name) p None → KeepsFrames m s t
KeepsFrames-loaded m s t a name p changes f w frame inside =
    KeepsWords-loaded m s t a name p None changes (word.Memory f.module f.number w) refl

pub KeepsFrames-pool :
    (m : Machine) (s t : Fine) (a mo number : ℕ) (p : Private) → mo < m.nodes → Changes m s t a (word.Pool mo) number p None →
    KeepsFrames m s t
KeepsFrames-pool m s t a mo number p node changes f w frame inside =
    word_at-other m s t a (word.Pool mo) number p None changes (word.Memory f.module f.number w) (pool-named m mo node)
    (memory-named m f w frame inside) (λ e. absurd cc)

module _ (m : Machine) (answer : Answer) (s t : Fine) (a now : ℕ) (x : Session) (next : Phase) (limits : IsWithinLimits m)
    (shows : Shows m answer s) (on : session_on s.privates x.fault.page ≡ Some (running a now x)) (words : KeepsFrames m s t) where
  pub frames-still :
      ((f : Frame) → IsTrue (is_frame m f) → uses_of m answer t f ≡ 1) →
      ((page : ℕ) (f : Frame) → page < m.pages → is_kept m answer t page f ≡ true → is_kept m answer s page f ≡ true) →
      ((w : ℕ) (f : Frame) → hand_of (with_phase x next) ≡ Some f → w < words_filled m next →
      (hand_of x ≡ Some f) × (w < words_filled m x.phase)) →
      ((y : ℕ × ℕ) → word_copied next ≡ Some y → y.1 ≡ flat_word m s.history x.fault.page y.0) → FramesGo m answer s t x next
  frames-still once kept filled copied = record {
    once = once;
    kept = λ page w f inside below is.
        let was = kept page f inside is in
        (was, words f w (kept-frame m answer s page f shows inside (first _ _ was)) below);
    hands = λ page w r f apart ran hand below.
        let ok : HandOk m f w = hand-machine m answer s limits shows page w r f ran hand below in words f w ok.frame ok.word;
    filled = λ w f hand below.
        let was = filled w f hand below in
        let ok : HandOk m f w = hand-machine m answer s limits shows x.fault.page w (running a now x) f on was.0 was.1 in
        words f w ok.frame ok.word ∙ shows.hand_flat x.fault.page w (running a now x) f on was.0 was.1;
    copied = copied;
  }
    where
      first : (b d : Bool) → (b && d) ≡ true → b ≡ true
      first true d h = refl
      first false d h = absurd cc
