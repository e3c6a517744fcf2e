-- a session goes on to another phase by an operation on a pool or on a word of a frame: the invariant holds on
use Rattle.std.specs.Prelude.{◌≡◌, ◌≢◌, ℕ, ◌<◌, true, false, Some, None}
use Rattle.std.specs.Prelude.{IsTrue}
use Rattle.std.proofs.Common.{refl, ap, sym, ◌∙◌, arith, subst}
use Rattle.std.proofs.lemmas.Bool.{true≢false}
use Rattle.std.proofs.lemmas.Bool.Decides.{nat_tests}
use Rattle.plat_base.specs.Verdicts.{Answer}
use Rattle.plat_base.specs.Machine.{Machine}
use Rattle.plat_base.specs.Pages.{page_of}
use Rattle.plat_base.specs.declared.frames.Frame.{Frame}
use Rattle.plat_base.specs.declared.words.WordName.{WordName}
use Rattle.plat_base.specs.declared.words.WordName.TheVariants as word
use Rattle.plat_events.specs.Places.{entry_count, is_name, is_word}
use Rattle.plat_events.specs.Sessions.{Phase, Session, with_phase}
use Rattle.plat_events.specs.Privates.{InSession, Private, actor_count}
use Rattle.plat_events.specs.Events.{at}
use Rattle.plat_events.specs.Standings.{hand_of, has_given}
use Rattle.plat_events.specs.Kept.{Running, session_on, session_of, is_kept, word_at, private_of}
use Rattle.plat_events.specs.Views.{EntryOk, HeldOk, InvalidateStays, View, view, view_of, session_viewed, held_view}
use Rattle.plat_events.specs.Views.{place_view, page_view, translation_of}
use Rattle.plat_events.specs.Runs.{Fine}
use Rattle.plat_events.specs.Shown.{is_hand, IsReachedAlone, Shows}
use Rattle.plat_fine_laws.specs.Changes.{Changes, KeepsPage}
use Rattle.plat_fine_laws.proofs.WordLaws.{word_at-other}
use Rattle.plat_fine_laws.proofs.ViewFieldLaws.{reference_is_pmap-kept}
use Rattle.plat_frame_laws.specs.Phased.{is_of_frames, running, PhaseGoes, FramesGo}
use Rattle.plat_frame_laws.proofs.ContinueLaws.{continue_ok, continue_waits, continue_held}
use Rattle.plat_frame_laws.specs.SessionMoved.{SessionLeaves, SessionWords}
use Rattle.plat_frame_laws.proofs.SessionMovedLaws as moved

module _ (m : Machine) (answer : Answer) (s t : Fine) (a : ℕ) (name : WordName) (number : ℕ) (x : Session) (next : Phase)
    (shows : Shows m answer s) (within : a < actor_count m) (stands : (private_of m s a).place ≡ InSession x)
    (changes : Changes m s t a name number (at (private_of m s a) (InSession (with_phase x next))) None)
    (named : IsTrue (is_name m name)) (frames : is_of_frames name ≡ true) where
  abbrev before : Private
  before = private_of m s a

  abbrev after : Private
  after = at before (InSession (with_phase x next))

  abbrev page : ℕ
  page = x.fault.page

  abbrev goes_on : Running
  goes_on = running a before.now (with_phase x next)

  history-same : t.history ≡ s.history
  history-same = changes.history

  pub other-word : (other : WordName) → IsTrue (is_name m other) → is_of_frames other ≡ false → word_at m t other ≡ word_at m s other
  other-word other there apart =
      word_at-other m s t a name number after None changes other named there
      (λ e. true≢false (sym frames ∙ (ap is_of_frames (sym e) ∙ apart)))

  mask : (e : ℕ) → e < entry_count m → word_at m t (word.Cmap e) ≡ word_at m s (word.Cmap e)
  mask e below = other-word (word.Cmap e) (grind (arith, nat_tests)) refl

  leaves : SessionLeaves m x.fault.page before after (with_phase x next)
  leaves = search arith

  words : SessionWords m x.fault.page s t
  words = record {
    time = other-word word.Time refl refl;
    live = other-word word.Live refl refl;
    acts = λ q below. other-word (word.Act q) (grind (arith, nat_tests)) refl;
    dirs = λ k below. other-word (word.Dir k) (grind (arith, nat_tests)) refl;
    stamps = λ k below. other-word (word.Stamp k) (grind (arith, nat_tests)) refl;
    masks = λ e below apart. mask e below;
  }

  pub ran : session_on s.privates page ≡ Some (running a before.now x)
  ran = shows.one_session a x within (ap session_of stands)

  pub runs : session_on t.privates page ≡ Some goes_on
  runs = moved.runs m answer s t a name number after x next shows within stands changes leaves

  pub others : (q : ℕ) → q ≢ page → session_on t.privates q ≡ session_on s.privates q
  others = moved.others m answer s t a name number after x next shows within stands changes leaves

  pub keeps : (q : ℕ) → q ≢ page → KeepsPage s t q
  keeps = moved.keeps m answer s t a name number after x next shows within stands changes leaves

  pub kept-still :
      ((f : Frame) → has_given m answer a (private_of m s a).now (with_phase x next) f ≡ has_given m answer a (private_of m s a).now x f) →
      (q : ℕ) (f : Frame) → is_kept m answer t q f ≡ is_kept m answer s q f
  kept-still = moved.kept-still m answer s t a name number after x next shows within stands changes leaves

  pub hand-still :
      hand_of (with_phase x next) ≡ hand_of x → (q : ℕ) (f : Frame) →
      is_hand (session_on t.privates q) f ≡ is_hand (session_on s.privates q) f
  hand-still = moved.hand-still m answer s t a name number after x next shows within stands changes leaves

  -- ---- entries

  translation-same : (q e : ℕ) → translation_of m t q e ≡ translation_of m s q e
  translation-same q e = moved.translation-same m answer s t a name number after x next shows within stands changes leaves q e refl

  -- ---- the entries of the session's page

  module _ (goes : PhaseGoes m answer a (private_of m s a).now x next) (q e : ℕ) (below : e < entry_count m)
      (of_page : page_of m e ≡ x.fault.page) where
    seen-before :
        view m answer s q e
        ≡ view_of q (translation_of m s q e) (word_at m s (word.Cmap e))
        (session_viewed m answer q e (translation_of m s q e) (running a before.now x))
        (place_view m (private_of m s q) e) (page_view m s (page_of m e) (translation_of m s q e))
    seen-before = moved.seen-before m answer s t a name number after x next shows within stands changes leaves q e of_page

    seen-after :
        view m answer t q e
        ≡ view_of q (translation_of m s q e) (word_at m s (word.Cmap e))
        (session_viewed m answer q e (translation_of m s q e) goes_on)
        (place_view m (private_of m s q) e) (page_view m s (page_of m e) (translation_of m s q e))
    seen-after =
        moved.seen-after m answer s t a name number after x next shows within stands changes leaves q e
        (translation_of m s q e) (word_at m s (word.Cmap e)) (translation-same q e) of_page (mask e below)

    held-same : held_view m t q e ≡ held_view m s q e
    held-same =
        moved.held-after m answer s t a name number after x next shows within stands changes leaves q e
        (translation_of m s q e) (word_at m s (word.Cmap e)) (translation-same q e)

    own-view : EntryOk (view m answer s q e) → EntryOk (view m answer t q e)
    own-view ok =
        subst EntryOk (sym seen-after)
        (continue_ok q (translation_of m s q e) (word_at m s (word.Cmap e))
        (session_viewed m answer q e (translation_of m s q e) (running a before.now x))
        (session_viewed m answer q e (translation_of m s q e) goes_on)
        (place_view m (private_of m s q) e) (page_view m s (page_of m e) (translation_of m s q e))
        (goes.continues q e (translation_of m s q e) below of_page) (subst EntryOk seen-before ok))

    own-waits : InvalidateStays (view m answer s q e) → InvalidateStays (view m answer t q e)
    own-waits ok =
        subst InvalidateStays (sym seen-after)
        (continue_waits q (translation_of m s q e) (word_at m s (word.Cmap e))
        (session_viewed m answer q e (translation_of m s q e) (running a before.now x))
        (session_viewed m answer q e (translation_of m s q e) goes_on)
        (place_view m (private_of m s q) e) (page_view m s (page_of m e) (translation_of m s q e))
        (goes.continues q e (translation_of m s q e) below of_page) (subst InvalidateStays seen-before ok))

    own-held : HeldOk (view m answer s q e) (held_view m s q e) → HeldOk (view m answer t q e) (held_view m t q e)
    own-held ok =
        rw (seen-after, held-same)
        (continue_held q (translation_of m s q e) (word_at m s (word.Cmap e))
        (session_viewed m answer q e (translation_of m s q e) (running a before.now x))
        (session_viewed m answer q e (translation_of m s q e) goes_on)
        (place_view m (private_of m s q) e) (page_view m s (page_of m e) (translation_of m s q e))
        (goes.continues q e (translation_of m s q e) below of_page) (held_view m s q e)
        (subst (λ (v : View). HeldOk v (held_view m s q e)) seen-before ok))

  -- ---- the invariant

  pub shows-phased :
      PhaseGoes m answer a (private_of m s a).now x next → FramesGo m answer s t x next → x.fault.page < m.pages →
      IsTrue (is_word m name number) → IsReachedAlone m answer a (at (private_of m s a) (InSession (with_phase x next))) →
      Shows m answer t
  shows-phased goes go page_within encoded reached =
      moved.shows-moved m answer s t a name number after x next shows within stands changes leaves words goes.follows go
      (λ q e inside below is. record {
        reference =
            reference_is_pmap-kept m s t q e (mask e below) (translation-same q e) (shows.reference_is_pmap q e inside below);
        view_ok = own-view goes q e below is (shows.views q e inside below);
        stays = own-waits goes q e below is (shows.invalidates_stay q e inside below);
        held = own-held goes q e below is (shows.held_is_pmap q e inside below);
      })
      page_within named encoded reached
