-- a session that seeks a frame goes on: the invariant holds on
use Rattle.std.specs.Prelude.{◌≡◌, ◌≢◌, ℕ, ◌<◌, ◌==◌, ◌&&◌, true, false, List, [], length, take, Option, Some, None, IsTrue}
use Rattle.std.proofs.Common.{refl, ap, sym, ◌∙◌, arith}
use Rattle.std.specs.Option.{option_map_or}
use Rattle.std.specs.List.{list_any}
use Rattle.std.proofs.lemmas.Bool.{true≢false}
use Rattle.std.proofs.Math.Bool.{and-false}
use Rattle.plat_base.specs.Verdicts.{Answer}
use Rattle.plat_base.specs.Machine.{Machine}
use Rattle.plat_base.specs.Pages.{entries_of_page}
use Rattle.plat_base.specs.Copies.{same_frame, copy_on}
use Rattle.plat_base.specs.Decide.{is_empty, is_frame}
use Rattle.plat_base.specs.Messages.{removes_some}
use Rattle.plat_base.specs.Rules.{HasEnoughFrames}
use Rattle.plat_base.specs.declared.frames.Frame.{Frame}
use Rattle.plat_base.specs.declared.items.Translation.{Translation}
use Rattle.plat_base.specs.declared.words.WordName.{WordName}
use Rattle.plat_events.specs.Places.{is_name, is_word}
use Rattle.plat_events.specs.Shootdowns.{Target, targets}
use Rattle.plat_events.specs.Sessions.{Stamp, Course, Phase, Session, translation_made, with_phase}
use Rattle.plat_events.specs.Privates.{InSession, actor_count}
use Rattle.plat_events.specs.Events.{at}
use Rattle.plat_events.specs.Standings.{stamp_of, unlocking_of, posts_of, removes_by, has_posted, waits_for, has_given, saw_no_frame}
use Rattle.plat_events.specs.Standings.{words_filled, word_copied}
use Rattle.plat_events.specs.Kept.{session_on, is_kept, private_of}
use Rattle.plat_events.specs.Views.{session_viewed, same_translation}
use Rattle.plat_events.specs.Runs.{Fine}
use Rattle.plat_events.specs.Shown.{is_hand, uses_of, IsReachedAlone, Shows}
use Rattle.plat_laws.specs.Guests.{IsWithinLimits}
use Rattle.plat_fine_laws.specs.Changes.{Changes}
use Rattle.plat_frame_laws.specs.Phased.{is_of_frames, running, Continues, PhaseGoes}
use Rattle.plat_frame_laws.specs.StartPhases.{StartPhase}
use Rattle.plat_frame_laws.proofs.StartPhaseLaws.{targets-none}
use Rattle.plat_frame_laws.proofs.PhasedLaws.{ran, runs, others, kept-still, shows-phased}
use Rattle.plat_frame_laws.proofs.StillFrameLaws.{KeepsFrames, frames-still}

-- ---- what such a phase says to a processor and an entry

module _ (m : Machine) (answer : Answer) (a now : ℕ) (x : Session) (st : Stamp) (got : Option Frame) (ph : Phase)
    (is : StartPhase m answer a now x st got ph) where
  pub unposted : (e : ℕ) → has_posted m answer a now (with_phase x ph) e ≡ false
  unposted e =
      ap
      (λ (ps : List ℕ). removes_some (removes_by m answer a now (with_phase x ph))
      && list_any (λ y. y == e) (take (length ps) (entries_of_page m x.fault.page)))
      is.posts
      ∙ and-false (removes_some (removes_by m answer a now (with_phase x ph)))

  pub unowed : (e q : ℕ) → waits_for m a (with_phase x ph) e q ≡ false
  unowed e q =
      let none : targets m a x.fault.page (posts_of (with_phase x ph)) ≡ [] =
      ap (λ (ps : List ℕ). targets m a x.fault.page ps) is.posts ∙ targets-none m a (entries_of_page m x.fault.page) in
      ap (list_any (λ (t : Target). t.entry == e && t.processor == q)) (is.left (targets m a x.fault.page (posts_of (with_phase x ph)))
      none)

  pub ungiven : (t : Option Translation) → option_map_or (λ (y : Translation). has_given m answer a now (with_phase x ph) y.grant.frame) t
      false ≡ false
  ungiven None = refl
  ungiven (Some y) = is.given y.grant.frame

-- ---- the session goes on

module _ (m : Machine) (answer : Answer) (a now : ℕ) (x : Session) (st : Stamp) (got : Option Frame) (next : Phase)
    (from : StartPhase m answer a now x st None x.phase) (to : StartPhase m answer a now x st got next)
    (stamp : stamp_of x.phase ≡ Some st) where
  same-unlocking : unlocking_of next ≡ unlocking_of x.phase
  same-unlocking = to.unlocking ∙ sym from.unlocking

  start-continues :
      (q e : ℕ) (t : Option Translation) →
      Continues (session_viewed m answer q e t (running a now x)) (session_viewed m answer q e t (running a now (with_phase x next)))
  start-continues q e t = record {
    whose = refl;
    posted = unposted m answer a now x st got next to e ∙ sym (unposted m answer a now x st None x.phase from e);
    owed = unowed m answer a now x st got next to e q ∙ sym (unowed m answer a now x st None x.phase from e q);
    granted = λ i.
        a == q && option_map_or (λ (d : Course). option_map_or (λ y. y == e) x.fault.entry false) (same-unlocking i) false;
    mine = λ i.
        (a == q && option_map_or (λ (d : Course). option_map_or (λ y. y == e) x.fault.entry false) (same-unlocking i) false)
        && option_map_or
        (λ y. option_map_or (λ d. same_translation y (translation_made m answer a now x d e)) (same-unlocking i) false) t false;
    removes = λ posted. absurd (true≢false (sym posted ∙ unposted m answer a now x st None x.phase from e));
    gives = λ given before. absurd (true≢false (sym given ∙ ungiven m answer a now x st got next to t));
  }

  pub start-goes :
      ((f : Frame) → got ≡ Some f → copy_on f.module x.dir.copies ≡ None) →
      (HasEnoughFrames m → IsTrue (is_empty x.dir.state) → saw_no_frame m a next ≡ false) → PhaseGoes m answer a now x next
  start-goes apart finds = record {
    follows = record {
      stamp = λ u read. stamp ∙ ap (λ (y : Stamp). Some y) (sym (to.stamp u read));
      unstored = from.stamped;
      unstamped = to.stamped;
      apart = λ f hand. apart f (sym to.hand ∙ hand);
      finds = finds;
      posts = λ quiet removes. ap length to.posts ∙ to.quiet quiet removes;
    };
    continues = λ q e t below of_page. start-continues q e t;
  }

-- ---- the frames

module _ (m : Machine) (answer : Answer) (s t : Fine) (a : ℕ) (name : WordName) (number : ℕ) (x : Session) (next : Phase) (st : Stamp)
    (got : Option Frame) (shows : Shows m answer s) (within : a < actor_count m) (stands : (private_of m s a).place ≡ InSession x)
    (changes : Changes m s t a name number (at (private_of m s a) (InSession (with_phase x next))) None)
    (named : IsTrue (is_name m name)) (frames : is_of_frames name ≡ true)
    (from : StartPhase m answer a (private_of m s a).now x st None x.phase)
    (to : StartPhase m answer a (private_of m s a).now x st got next) where
  abbrev now : ℕ
  now = (private_of m s a).now

  abbrev page : ℕ
  page = x.fault.page

  there : session_on s.privates page ≡ Some (running a now x)
  there = ran m answer s t a name number x next shows within stands changes named frames

  then : session_on t.privates page ≡ Some (running a now (with_phase x next))
  then = runs m answer s t a name number x next shows within stands changes named frames

  pub start-kept : (q : ℕ) (f : Frame) → is_kept m answer t q f ≡ is_kept m answer s q f
  start-kept = kept-still m answer s t a name number x next shows within stands changes named frames (λ f. to.given f ∙ sym (from.given f))

  pub start-hand_before : (f : Frame) → is_hand (session_on s.privates page) f ≡ false
  start-hand_before f = ap (λ o. is_hand o f) there ∙ ap (λ (o : Option Frame). option_map_or (same_frame f) o false) from.hand

  pub start-hand_after : (f : Frame) → is_hand (session_on t.privates page) f ≡ option_map_or (same_frame f) got false
  start-hand_after f = ap (λ o. is_hand o f) then ∙ ap (λ (o : Option Frame). option_map_or (same_frame f) o false) to.hand

  pub start-hand_other : (q : ℕ) (f : Frame) → q ≢ page → is_hand (session_on t.privates q) f ≡ is_hand (session_on s.privates q) f
  start-hand_other q f apart =
      ap (λ o. is_hand o f) (others m answer s t a name number x next shows within stands changes named frames q apart)

  pub shows-started :
      IsWithinLimits m → KeepsFrames m s t → stamp_of x.phase ≡ Some st →
      ((f : Frame) → got ≡ Some f → copy_on f.module x.dir.copies ≡ None) →
      (HasEnoughFrames m → IsTrue (is_empty x.dir.state) → saw_no_frame m a next ≡ false) →
      ((f : Frame) → IsTrue (is_frame m f) → uses_of m answer t f ≡ 1) → x.fault.page < m.pages → IsTrue (is_word m name number) →
      IsReachedAlone m answer a (at (private_of m s a) (InSession (with_phase x next))) → Shows m answer t
  shows-started limits words stamp apart finds once page_within encoded reached =
      shows-phased m answer s t a name number x next shows within stands changes named frames
      (start-goes m answer a now x st got next from to stamp apart finds)
      (frames-still m answer s t a now x next limits shows there words once
      (λ q f below kept. sym (start-kept q f) ∙ kept)
      (λ w f hand below. let none : words_filled m next ≡ 0 = to.filled f (sym to.hand ∙ hand) in absurd (omega arith))
      (λ y read. let none : word_copied next ≡ None = to.copied in absurd cc))
      page_within encoded reached
