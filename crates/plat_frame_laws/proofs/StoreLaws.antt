-- a word is stored in the frame in hand: the invariant holds on where it is the next word, and that of flat memory
use Rattle.std.specs.Prelude.{◌≡◌, ◌≢◌, ◌⊎◌, ℕ, ◌+◌, ◌<◌, ◌&&◌, not, Bool, true, false, [], Option, Some, None, IsTrue, sum_by}
use Rattle.std.proofs.Common.{refl, ap, sym, ◌∙◌, inl, inr, arith, subst}
use Rattle.std.specs.Option.{option_map_or}
use Rattle.std.proofs.lemmas.Bool.{cases_eq, true≢false}
use Rattle.std.proofs.lemmas.Bool.Decides.{nat_tests}
use Rattle.plat_base.specs.Verdicts.{Answer}
use Rattle.plat_base.specs.Machine.{Machine}
use Rattle.plat_base.specs.Pages.{numbers}
use Rattle.plat_base.specs.Copies.{same_frame}
use Rattle.plat_base.specs.Directories.{dir_of}
use Rattle.plat_base.specs.Decide.{is_dir, is_frame, may_decide}
use Rattle.plat_base.specs.declared.frames.Frame.{Frame}
use Rattle.plat_base.specs.declared.words.WordName.TheVariants as word
use Rattle.plat_base.proofs.CopiesLemmas.{same_frame-itself}
use Rattle.plat_events.specs.Words.{has_bit}
use Rattle.plat_events.specs.Places.{is_name, is_data_word}
use Rattle.plat_events.specs.Sessions.{Course, Phase, Session, with_phase, memory_at}
use Rattle.plat_events.specs.Privates.{InSession, actor_count}
use Rattle.plat_events.specs.Events.{at}
use Rattle.plat_events.specs.Standings.{hand_of, words_filled, word_copied}
use Rattle.plat_events.specs.Kept.{Running, session_on, gave_back, is_copy_of, is_kept, word_at, private_of}
use Rattle.plat_events.specs.Runs.{Fine}
use Rattle.plat_events.specs.Shown.{bit_of, is_hand, uses_of, flat_word, frame_word, IsReachedAlone, Shows}
use Rattle.plat_laws.specs.Guests.{IsWithinLimits}
use Rattle.plat_fine_laws.specs.Changes.{Changes}
use Rattle.plat_fine_laws.proofs.WordLaws.{word_at-new, word_at-other}
use Rattle.plat_frame_laws.specs.Phased.{running}
use Rattle.plat_frame_laws.specs.QuietPhases.{QuietPhase}
use Rattle.plat_frame_laws.proofs.SumLaws.{sum-same}
use Rattle.plat_frame_laws.proofs.FrameUseLaws.{page_uses, used-apart, hand-not_kept, hand-uses, unused-kept, unused-hand}
use Rattle.plat_frame_laws.proofs.HandLaws.{HandOk, may-frame, running-page, hand-machine, kept-frame}
use Rattle.plat_frame_laws.proofs.PhasedLaws.{ran, shows-phased}
use Rattle.plat_frame_laws.proofs.QuietGoesLaws.{hand-quiet, quiet-goes}
use Rattle.plat_frame_laws.proofs.FrameGoLaws.{kept-still, hand-still}

-- two words of memory with one name are one word of one frame
pub memory_frame : (g f : Frame) (v w : ℕ) → memory_at g v ≡ memory_at f w → (g ≡ f) × (v ≡ w)
memory_frame g f v w e =
    let mo : g.module ≡ f.module = cc in let number : g.number ≡ f.number = cc in
    (λ i. record { «module» = mo i; number = number i }, cc)

-- pools of two modules are two words
pub pool-apart : (u v : ℕ) → u ≢ v → word.Pool u ≢ word.Pool v
pool-apart u v apart e = let same : u ≡ v = cc in apart same

pub memory-named : (m : Machine) (f : Frame) (w : ℕ) → is_frame m f ≡ true → w < m.words → IsTrue (is_name m (memory_at f w))
memory-named m f w frame inside = grind (arith, nat_tests)

pub pool-named : (m : Machine) (mo : ℕ) → mo < m.nodes → IsTrue (is_name m (word.Pool mo))
pool-named m mo inside = grind (arith, nat_tests)

pub frame-node : (m : Machine) (f : Frame) → is_frame m f ≡ true → f.module < m.nodes
frame-node m f frame = grind (arith, nat_tests)

module _ (m : Machine) (answer : Answer) (s t : Fine) (a : ℕ) (x : Session) (next : Phase) (f : Frame) (w value : ℕ)
    (limits : IsWithinLimits m) (shows : Shows m answer s) (within : a < actor_count m)
    (stands : (private_of m s a).place ≡ InSession x)
    (changes : Changes m s t a (memory_at f w) value (at (private_of m s a) (InSession (with_phase x next))) None)
    (c : Course) (read : Option (ℕ × ℕ)) (from : QuietPhase m answer a (private_of m s a).now x c x.phase w read [])
    (to : QuietPhase m answer a (private_of m s a).now x c next (w + 1) None []) (got : c.got ≡ Some f) (left : w < m.words)
    (may : may_decide m answer x.dir c.stamp.last (private_of m s a).now a x.fault.cause c.got ≡ true) (page_within : x.fault.page <
    m.pages)
  where
    abbrev now : ℕ
    now = (private_of m s a).now

    abbrev page : ℕ
    page = x.fault.page

    frame : is_frame m f ≡ true
    frame = may-frame m answer x.dir c.stamp.last now a x.fault.cause c.got f may got

    named : IsTrue (is_name m (memory_at f w))
    named = memory-named m f w frame left

    there : session_on s.privates page ≡ Some (running a now x)
    there = ran m answer s t a (memory_at f w) value x next shows within stands changes named refl

    hand-before : hand_of x ≡ Some f
    hand-before = hand-quiet m answer a now x c x.phase w read [] from ∙ got

    in_hand : is_hand (session_on s.privates page) f ≡ true
    in_hand =
        ap (λ o. is_hand o f) there
        ∙ (ap (λ (o : Option Frame). option_map_or (same_frame f) o false) hand-before ∙ same_frame-itself f)

    used : 0 < page_uses m answer s f page
    used = hand-uses m answer s f page in_hand

    elsewhere : (q : ℕ) → q < m.pages → q ≢ page → page_uses m answer s f q ≡ 0
    elsewhere q inside apart = used-apart m answer s f (shows.frames_once f frame) page page_within used q inside apart

    -- the frame in hand is kept nowhere
    not-kept : (q : ℕ) → q < m.pages → is_kept m answer s q f ≡ false
    not-kept q inside = by (cases_eq q page)
      where
        by : (q ≡ page) ⊎ (q ≢ page) → is_kept m answer s q f ≡ false
        by (inl e) = rw e (hand-not_kept m answer s f (shows.frames_once f frame) page page_within in_hand)
        by (inr n) = unused-kept m answer s f q (elsewhere q inside n)

    other-word : (g : Frame) (v : ℕ) → is_frame m g ≡ true → v < m.words → (g ≡ f → v ≡ w → ⊥) → frame_word m t g v ≡ frame_word m s g v
    other-word g v there inside apart =
        word_at-other m s t a (memory_at f w) value (at (private_of m s a) (InSession (with_phase x next))) None changes (memory_at g v)
        named
        (memory-named m g v there inside) (λ e. let same = memory_frame g f v w e in apart same.0 same.1)

    kept-same : (q : ℕ) (g : Frame) → is_kept m answer t q g ≡ is_kept m answer s q g
    kept-same q g = kept-still m answer s t a (memory_at f w) value x next shows within stands changes named refl c w (w + 1) read None
        [] [] from to refl q g

    hand-same : (q : ℕ) (g : Frame) → is_hand (session_on t.privates q) g ≡ is_hand (session_on s.privates q) g
    hand-same q g = hand-still m answer s t a (memory_at f w) value x next shows within stands changes named refl c w (w + 1) read None
        [] [] from to q g

    once : (g : Frame) → IsTrue (is_frame m g) → uses_of m answer t g ≡ 1
    once g machine =
        let pool : word_at m t (word.Pool g.module) ≡ word_at m s (word.Pool g.module) =
        word_at-other m s t a (memory_at f w) value (at (private_of m s a) (InSession (with_phase x next))) None changes (word.Pool
        g.module)
        named (pool-named m g.module (frame-node m g machine)) (λ e. absurd cc) in
        let pages : sum_by (page_uses m answer t g) (numbers m.pages) ≡ sum_by (page_uses m answer s g) (numbers m.pages) =
        sum-same (page_uses m answer t g) (page_uses m answer s g) m.pages
        (λ q below. λ i. bit_of (kept-same q g i) + bit_of (hand-same q g i)) in
        (λ i. bit_of (has_bit (pool i) g.number) + pages i) ∙ shows.frames_once g machine

    kept :
        (q v : ℕ) (g : Frame) → q < m.pages → v < m.words → is_kept m answer t q g ≡ true →
        (is_kept m answer s q g ≡ true) × (frame_word m t g v ≡ frame_word m s g v)
    kept q v g inside below is =
        let was : is_kept m answer s q g ≡ true = sym (kept-same q g) ∙ is in
        let copy : is_copy_of (dir_of s.history q).copies g ≡ true = first (is_copy_of (dir_of s.history q).copies g) (not (gave_back m
        answer (session_on s.privates q) g)) was in (
          was,
          other-word g v (kept-frame m answer s q g shows inside copy) below
              (λ same _. true≢false (sym (ap (is_kept m answer s q) (sym same) ∙ was) ∙ not-kept q inside)),
        )
      where
        first : (b d : Bool) → (b && d) ≡ true → b ≡ true
        first true d h = refl
        first false d h = absurd cc

    hands :
        (q v : ℕ) (r : Running) (g : Frame) → q ≢ page → session_on s.privates q ≡ Some r → hand_of r.session ≡ Some g →
        v < words_filled m r.session.phase → frame_word m t g v ≡ frame_word m s g v
    hands q v r g apart on hand filled =
        let ok : HandOk m g v = hand-machine m answer s limits shows q v r g on hand filled in
        other-word g v ok.frame ok.word (λ same _. clash same)
      where
        clash : g ≡ f → ⊥
        clash same =
            let here : is_hand (session_on s.privates q) f ≡ true =
            ap (λ o. is_hand o f) on
            ∙ (ap (λ (o : Option Frame). option_map_or (same_frame f) o false) (hand ∙ ap (λ (y : Frame). Some y) same)
            ∙ same_frame-itself f) in
            let inside : q < m.pages = running-page m answer s limits shows q r on in
            true≢false (sym here ∙ unused-hand m answer s f q (elsewhere q inside apart))

    copied : (y : ℕ × ℕ) → word_copied next ≡ Some y → y.1 ≡ flat_word m s.history page y.0
    copied y is = let none : word_copied next ≡ None = to.copied in absurd cc

    pub shows-stored :
        value ≡ flat_word m s.history x.fault.page w → IsTrue (is_data_word m value) → IsTrue (is_dir m x.dir) →
        IsReachedAlone m answer a (at (private_of m s a) (InSession (with_phase x next))) → Shows m answer t
    shows-stored flat encoded fits reached =
        shows-phased m answer s t a (memory_at f w) value x next shows within stands changes named refl
        (quiet-goes m answer s a now x c next w (w + 1) read None [] [] shows there from to may fits (λ g none. absurd cc))
        (record { once = once; kept = kept; hands = hands; filled = filled; copied = copied })
        page_within encoded reached
      where
        filled :
            (v : ℕ) (g : Frame) → hand_of (with_phase x next) ≡ Some g → v < words_filled m next →
            frame_word m t g v ≡ flat_word m s.history page v
        filled v g hand below =
            let hand_now : hand_of (with_phase x next) ≡ Some f = hand-quiet m answer a now x c next (w + 1) None [] to ∙ got in
            let same : f ≡ g = some_same f g (sym hand_now ∙ hand) in
            subst (λ (y : Frame). frame_word m t y v ≡ flat_word m s.history page v) same (by (cases_eq v w))
          where
            some_same : (y z : Frame) → Some y ≡ Some z → y ≡ z
            some_same y z e = cc

            by : (v ≡ w) ⊎ (v ≢ w) → frame_word m t f v ≡ flat_word m s.history page v
            by (inl e) =
                let new : frame_word m t f w ≡ value =
                word_at-new m s t a (memory_at f w) value (at (private_of m s a) (InSession (with_phase x next))) None changes
                shows.all_words named in
                rw e (new ∙ flat)
            by (inr n) =
                let most : words_filled m next ≡ w + 1 = to.filled in
                let was : words_filled m x.phase ≡ w = from.filled in
                other-word f v frame (omega arith) (λ _ e. n e)
                ∙ shows.hand_flat page v (running a now x) f there hand-before (omega arith)
