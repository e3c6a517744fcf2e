-- a session makes an operation of its shootdown: the invariant holds on, where it holds of each processor and entry of the page
use Rattle.std.specs.Prelude.{◌≡◌, ℕ, ◌+◌, ◌<◌, false, List, [], length, Some}
use Rattle.std.specs.Prelude.{None, IsTrue, sum_by}
use Rattle.std.proofs.Common.{refl, ap, sym, ◌∙◌, arith}
use Rattle.std.specs.List.{list_any}
use Rattle.std.specs.Option.{option_map_or}
use Rattle.std.proofs.lemmas.Bool.Decides.{nat_tests}
use Rattle.plat_base.specs.Verdicts.{Answer}
use Rattle.plat_base.specs.Machine.{Machine}
use Rattle.plat_base.specs.Copies.{same_frame, copy_on}
use Rattle.plat_base.specs.Decide.{is_frame}
use Rattle.plat_base.specs.Pages.{numbers, page_of}
use Rattle.plat_base.specs.declared.frames.Frame.{Frame}
use Rattle.plat_base.specs.declared.words.WordName.{WordName}
use Rattle.plat_base.specs.declared.words.WordName.TheVariants as word
use Rattle.plat_events.specs.Words.{has_bit}
use Rattle.plat_events.specs.Places.{entry_count, is_name, is_word}
use Rattle.plat_events.specs.Sessions.{Course, Phase, Session, decision_of, going, with_phase, with_posts}
use Rattle.plat_events.specs.Privates.{InSession, Private, actor_count}
use Rattle.plat_events.specs.Standings.{words_filled, word_copied, frames_given, hand_of}
use Rattle.plat_events.specs.Standings.{has_given}
use Rattle.plat_events.specs.Kept.{session_on, session_of, is_kept, word_at}
use Rattle.plat_events.specs.Kept.{private_of}
use Rattle.plat_events.specs.Runs.{Fine}
use Rattle.plat_events.specs.Shown.{bit_of, is_hand, uses_of}
use Rattle.plat_events.specs.Shown.{IsReachedAlone, Shows}
use Rattle.plat_laws.specs.Guests.{IsWithinLimits}
use Rattle.plat_fine_laws.specs.Changes.{Changes}
use Rattle.plat_frame_laws.specs.Phased.{running, PhaseFollows, FramesGo}
use Rattle.plat_frame_laws.proofs.StoreLaws.{memory-named, pool-named, frame-node}
use Rattle.plat_frame_laws.proofs.SumLaws.{sum-same}
use Rattle.plat_frame_laws.proofs.FrameUseLaws.{page_uses}
use Rattle.plat_frame_laws.proofs.StillFrameLaws.{KeepsFrames, frames-still}
use Rattle.plat_shootdown_laws.specs.Shots.{ShotPhase, ShotWords}
use Rattle.plat_frame_laws.specs.SessionMoved.{SessionLeaves, SessionWords, PairOk}
use Rattle.plat_frame_laws.proofs.SessionMovedLaws.{kept-still, hand-still, shows-moved}
use Rattle.plat_base.specs.declared.frames.Dir.{Dir}

module _ (m : Machine) (answer : Answer) (s t : Fine) (a : ℕ) (name : WordName) (number : ℕ) (after : Private) (x : Session) (c : Course)
    (k k' : ℕ) (posts : List ℕ) (next : Phase) (limits : IsWithinLimits m) (shows : Shows m answer s) (within : a < actor_count m)
    (stands : (private_of m s a).place ≡ InSession x)
    (changes : Changes m s t a name number after None) (named : IsTrue (is_name m name)) (words : ShotWords m x.fault.page s t)
    (leaves : SessionLeaves m x.fault.page (private_of m s a) after (with_phase x next))
    (from : ShotPhase m answer a (private_of m s a).now x c k x.phase)
    (to : ShotPhase m answer a (private_of m s a).now x (with_posts c posts) k' next) where
  abbrev before : Private
  before = private_of m s a

  abbrev page : ℕ
  page = x.fault.page

  ran : session_on s.privates page ≡ Some (running a before.now x)
  ran = shows.one_session a x within (ap session_of stands)

  -- ---- the frames

  hand-before : hand_of x ≡ c.got
  hand-before = ap (λ o. option_map_or (λ (d : Course). d.got) o None) from.course

  hand-after : hand_of (with_phase x next) ≡ c.got
  hand-after = ap (λ o. option_map_or (λ (d : Course). d.got) o None) to.course

  given-before : (f : Frame) → has_given m answer a before.now x f ≡ false
  given-before f =
      ap (λ o. option_map_or (λ d. list_any (same_frame f) (frames_given (going x.dir (decision_of m answer a before.now x d)) x.phase)) o
      false) from.course
      ∙ ap (list_any (same_frame f)) from.given

  given-after : (f : Frame) → has_given m answer a before.now (with_phase x next) f ≡ false
  given-after f =
      ap (λ o. option_map_or (λ d. list_any (same_frame f) (frames_given (going x.dir (decision_of m answer a before.now x d)) next)) o
      false) to.course
      ∙ ap (list_any (same_frame f)) to.given

  kept-same : (q : ℕ) (f : Frame) → is_kept m answer t q f ≡ is_kept m answer s q f
  kept-same =
      kept-still m answer s t a name number after x next shows within stands changes leaves
      (λ f. given-after f ∙ sym (given-before f))

  hand-same : (q : ℕ) (f : Frame) → is_hand (session_on t.privates q) f ≡ is_hand (session_on s.privates q) f
  hand-same =
      hand-still m answer s t a name number after x next shows within stands changes leaves (hand-after ∙ sym hand-before)

  memory-same : KeepsFrames m s t
  memory-same f w frame inside = words.steady (word.Memory f.module f.number w) (memory-named m f w frame inside) refl

  once : (f : Frame) → IsTrue (is_frame m f) → uses_of m answer t f ≡ 1
  once f frame =
      let pool : word_at m t (word.Pool f.module) ≡ word_at m s (word.Pool f.module) =
      words.steady (word.Pool f.module) (pool-named m f.module (frame-node m f frame)) refl in
      let pages : sum_by (page_uses m answer t f) (numbers m.pages) ≡ sum_by (page_uses m answer s f) (numbers m.pages) =
      sum-same (page_uses m answer t f) (page_uses m answer s f) m.pages
      (λ q below. λ i. bit_of (kept-same q f i) + bit_of (hand-same q f i)) in
      (λ i. bit_of (has_bit (pool i) f.number) + pages i) ∙ shows.frames_once f frame

  frames-go : FramesGo m answer s t x next
  frames-go =
      frames-still m answer s t a before.now x next limits shows ran memory-same once
      (λ q f below kept. sym (kept-same q f) ∙ kept)
      (λ w f hand below. let none : words_filled m next ≡ 0 = to.filled f (sym hand-after ∙ hand) in absurd (omega arith))
      (λ y read. let none : word_copied next ≡ None = to.copied in absurd cc)

  -- ---- the invariant

  follows : PhaseFollows m answer a before.now x next
  follows = record {
    stamp = λ u read. from.stamp ∙ (sym to.stamp ∙ read);
    unstored = from.stamped;
    unstamped = to.stamped;
    apart = λ f hand. ap (λ (d : Dir). copy_on f.module d.copies) (shows.dir_read_is page (running a before.now x) ran)
        ∙ shows.hand_apart page (running a before.now x) f ran (hand-before ∙ (sym hand-after ∙ hand));
    finds = λ enough empty. to.saw ∙ (sym from.saw ∙ shows.enough_finds enough page (running a before.now x) ran empty);
    posts = λ quiet removes. ap (λ o. length (option_map_or (λ (d : Course). d.posts) o [])) to.course ∙ to.posted quiet;
  }

  pub shows-shot :
      ((q e : ℕ) → q < m.nodes → e < entry_count m → page_of m e ≡ x.fault.page → PairOk m answer t q e) → x.fault.page < m.pages →
      IsTrue (is_word m name number) → IsReachedAlone m answer a after → Shows m answer t
  shows-shot pairs page_within encoded reached =
      shows-moved m answer s t a name number after x next shows within stands changes leaves session-words follows frames-go
      pairs page_within named encoded reached
    where
      session-words : SessionWords m x.fault.page s t
      session-words = record {
        time = words.steady word.Time refl refl;
        live = words.steady word.Live refl refl;
        acts = λ q below. words.steady (word.Act q) (grind (arith, nat_tests)) refl;
        dirs = λ k below. words.steady (word.Dir k) (grind (arith, nat_tests)) refl;
        stamps = λ k below. words.steady (word.Stamp k) (grind (arith, nat_tests)) refl;
        masks = words.masks;
      }
