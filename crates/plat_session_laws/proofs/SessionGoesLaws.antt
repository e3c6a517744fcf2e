-- one session on a page gives way to another, or to none, while no translation changes and no item is made
use Rattle.std.specs.Prelude.{◌≡◌, ◌≢◌, ◌⊎◌, ℕ, ◌+◌, ◌<◌, ◌&&◌, not, true, false, Option, Some, None, is_some, IsTrue, slice_index_or}
use Rattle.std.proofs.Common.{ap, sym, ◌∙◌, inl, inr, arith}
use Rattle.std.specs.Option.{option_map_or}
use Rattle.std.proofs.lemmas.Bool.{cases_eq, and_parts}
use Rattle.std.proofs.lemmas.Bool.Decides.{nat_tests}
use Rattle.plat_base.specs.Verdicts.{Answer}
use Rattle.plat_base.specs.Machine.{Machine}
use Rattle.plat_base.specs.Copies.{copy_on}
use Rattle.plat_base.specs.Decide.{is_dir, is_frame}
use Rattle.plat_base.specs.Pages.{page_of}
use Rattle.plat_base.specs.Directories.{dir_of, seq_of, last_of}
use Rattle.plat_base.specs.Flat.{flat_value, flat_writes}
use Rattle.plat_base.specs.Held.{held, has_right, later, removes_all, removes_writes}
use Rattle.plat_base.specs.declared.frames.Frame.{Frame}
use Rattle.plat_base.specs.declared.items.Kind.TheVariants.{Store}
use Rattle.plat_base.specs.declared.items.Translation.{Translation}
use Rattle.plat_base.specs.declared.words.WordName.{WordName}
use Rattle.plat_base.specs.declared.words.WordName.TheVariants as word
use Rattle.plat_events.specs.Words.{has_reference}
use Rattle.plat_events.specs.Places.{entry_count, is_name, is_word}
use Rattle.plat_events.specs.Privates.{Private, actor_count, translation_at}
use Rattle.plat_events.specs.Standings.{words_filled}
use Rattle.plat_events.specs.Kept.{Running, running_of, session_on, is_copy_of, is_kept, gave_back, word_at, private_of}
use Rattle.plat_events.specs.Views.{View, view, view_of, session_view, held_view, agrees, place_view, page_view, translation_of}
use Rattle.plat_events.specs.Runs.{Fine, ends_of}
use Rattle.plat_events.specs.Shown.{bit_of, kind_for, stamp_by, flat_word, frame_word, is_hand, IsReachedAlone, Shows}
use Rattle.plat_laws.specs.Guests.{IsWithinLimits}
use Rattle.plat_fine_laws.specs.Changes.{Changes}
use Rattle.plat_fine_laws.proofs.WordLaws.{word_at-other}
use Rattle.plat_fine_laws.proofs.PrivateLaws.{private_of-other}
use Rattle.plat_fine_laws.proofs.EndFieldLaws.{ends-still}
use Rattle.plat_frame_laws.proofs.HandLaws.{hand-machine, kept-frame}
use Rattle.plat_frame_laws.proofs.FrameUseLaws.{page_uses}
use Rattle.plat_session_laws.specs.OnePage.{is_of_page, ShowsPage, ShowsEntry, LeavesOthers, ActorGoes, SessionGoes, ViewOk}
use Rattle.plat_session_laws.proofs.PageLaws.{here, new, frame-word, runs, others, place-same, once-kept, shows-page}

module _ (m : Machine) (answer : Answer) (s t : Fine) (a : ℕ) (name : WordName) (number : ℕ) (after : Private) (page : ℕ)
    (limits : IsWithinLimits m) (shows : Shows m answer s) (within : a < actor_count m) (changes : Changes m s t a name number after None)
    (named : IsTrue (is_name m name)) (of_page : is_of_page m page name ≡ true)
    (goes : ActorGoes m a (private_of m s a) after None page)
    (sole : (r : Running) → session_on s.privates page ≡ Some r → r.actor ≡ a)
    (translated : (q e : ℕ) → page_of m e ≢ page → translation_of m t q e ≡ translation_of m s q e)
    (old next : Option Running) (was : session_on s.privates page ≡ old) (is : running_of (a, after) ≡ next)
    (owes : SessionGoes m answer s t page old next) where
  pub history-same : t.history ≡ s.history
  history-same = changes.history

  pub comes_on : session_on t.privates page ≡ next
  comes_on = runs m answer s t a name number after None page limits shows within changes named of_page goes sole ∙ is

  flat-same : (q w : ℕ) → flat_word m t.history q w ≡ flat_word m s.history q w
  flat-same q w = ap (λ h. flat_word m h q w) history-same

  leaves : LeavesOthers m s t page
  leaves = record {
    pages = λ k apart. record {
      session = others m answer s t a name number after None page limits shows within changes named of_page goes sole k apart;
      dir = ap (λ h. dir_of h k) history-same;
      seq = ap (λ h. seq_of h k) history-same;
      last = ap (λ h. last_of h k) history-same;
      removals = λ test seq. ap (λ h. later test h k seq) history-same;
    };
    flat = λ k w apart. record {
      value = ap (λ h. flat_value m h k w) history-same;
      writes = ap (λ h. flat_writes h k w) history-same;
    };
    holds = λ q e below apart. ap (λ h. held m h q e) history-same;
    translations = translated;
    faults = λ k e r apart on entry. ap (λ h. held m h r.actor e) history-same;
  }

  -- ---- the page

  kept-same : (f : Frame) → is_kept m answer t page f ≡ is_kept m answer s page f
  kept-same f =
      let back : gave_back m answer (session_on t.privates page) f ≡ gave_back m answer (session_on s.privates page) f =
      ap (λ o. gave_back m answer o f) comes_on ∙ (owes.back f ∙ sym (ap (λ o. gave_back m answer o f) was)) in
      λ i. is_copy_of (dir_of (history-same i) page).copies f && not (back i)

  uses-same : (f : Frame) → is_frame m f ≡ true → page_uses m answer t f page ≡ page_uses m answer s f page
  uses-same f machine =
      let hand : is_hand (session_on t.privates page) f ≡ is_hand (session_on s.privates page) f =
      ap (λ o. is_hand o f) comes_on ∙ (owes.in_hand f ∙ sym (ap (λ o. is_hand o f) was)) in
      λ i. bit_of (kept-same f i) + bit_of (hand i)

  frame-same : (f : Frame) (w : ℕ) → is_frame m f ≡ true → w < m.words → frame_word m t f w ≡ frame_word m s f w
  frame-same = frame-word m answer s t a name number after None page limits shows within changes named of_page goes sole

  comes : (r : Running) → session_on t.privates page ≡ Some r → next ≡ Some r
  comes r on = sym comes_on ∙ on

  page-ok : page < m.pages → ShowsPage m answer t page
  page-ok below = record {
    lock = owes.lock ∙ sym (ap is_some comes_on);
    dir_read_is = λ r on. owes.dir_read_is r (comes r on) ∙ ap (λ h. dir_of h page) (sym history-same);
    stamp_read_is = λ r st on read.
        let same = owes.stamp_read_is r st (comes r on) read in
        (same.0 ∙ ap (λ h. last_of h page) (sym history-same), same.1 ∙ ap (λ h. seq_of h page) (sym history-same));
    dir_is = owes.dir ∙ (shows.dir_is_history page below ∙ ap (λ h. dir_of h page) (sym history-same));
    stamp_is =
        owes.stamp
        ∙ (ap (stamp_by m answer s.history page) (sym comes_on)
        ∙ ap (λ h. stamp_by m answer h page (session_on t.privates page)) (sym history-same));
    copies_fit = ap (λ h. is_dir m (dir_of h page)) history-same ∙ shows.copies_fit page below;
    hand_apart = λ r f on hand.
        let had = owes.hand r f (comes r on) hand in
        ap (λ h. copy_on f.module (dir_of h page).copies) history-same ∙ shows.hand_apart page had.0 f (was ∙ had.1) had.2;
    enough_finds = λ enough r on. owes.finds enough r (comes r on);
    kept_flat = λ w f inside kept.
        let before : is_kept m answer s page f ≡ true = sym (kept-same f) ∙ kept in
        let copy : is_copy_of (dir_of s.history page).copies f ≡ true =
        (and_parts (is_copy_of (dir_of s.history page).copies f) (not (gave_back m answer (session_on s.privates page) f)) before).0 in
        frame-same f w (kept-frame m answer s page f shows below copy) inside
        ∙ (shows.kept_flat page w f below inside before ∙ sym (flat-same page w));
    hand_flat = λ w r f on hand filled.
        let had = owes.hand r f (comes r on) hand in
        let most = had.3 in
        let less : w < words_filled m had.0.session.phase = omega (arith, most, filled) in
        let ok = hand-machine m answer s limits shows page w had.0 f (was ∙ had.1) had.2 less in
        frame-same f w ok.frame ok.word ∙ (shows.hand_flat page w had.0 f (was ∙ had.1) had.2 less ∙ sym (flat-same page w));
    read_flat = λ r x on copied. absurd (let none = owes.copied r (comes r on) in cc);
    fault_not_held = λ e r on entry.
        ap (λ h. has_right (kind_for r.session.fault.cause) (held m h r.actor e)) history-same ∙ owes.not_held e r (comes r on) entry;
    posts_made = λ r on. owes.posts r (comes r on);
  }

  pub page_view-still : (k : ℕ) (o : Option Translation) → page_view m t k o ≡ page_view m s k o
  page_view-still k o = λ i. record {
    dir = dir_of (history-same i) k;
    all_after = option_map_or (λ (y : Translation). later removes_all (history-same i) k y.seq) o false;
    writes_after = option_map_or (λ (y : Translation). later removes_writes (history-same i) k y.seq) o false;
  }

  pub shows-there :
      page < m.pages → ((q e : ℕ) → q < m.nodes → e < entry_count m → page_of m e ≡ page → ShowsEntry m answer t q e) →
      IsTrue (is_word m name number) → IsReachedAlone m answer a after → Shows m answer t
  shows-there below entries encoded reached =
      let ends : ends_of m t.privates ≡ ends_of m s.privates =
      ends-still m s t a name number after None changes
      (here m answer s t a name number after None page limits shows within changes named of_page goes sole)
      (λ inside. λ i. record { end = goes.ended inside i; turns = goes.turns i }) in
      shows-page m answer s t a name number after None page limits shows within changes named of_page goes sole below leaves (page-ok below)
      entries
      (once-kept m answer s t a name number after None page limits shows within changes named of_page goes sole leaves uses-same)
      (rw (history-same, ends) shows.history_good) encoded reached

-- and no translation changes
module _ (m : Machine) (answer : Answer) (s t : Fine) (a : ℕ) (name : WordName) (number : ℕ) (after : Private) (page : ℕ)
    (limits : IsWithinLimits m) (shows : Shows m answer s) (within : a < actor_count m) (changes : Changes m s t a name number after None)
    (named : IsTrue (is_name m name)) (of_page : is_of_page m page name ≡ true)
    (goes : ActorGoes m a (private_of m s a) after None page)
    (sole : (r : Running) → session_on s.privates page ≡ Some r → r.actor ≡ a)
    (pmap : after.pmap ≡ (private_of m s a).pmap) (unmasked : (e : ℕ) → word.Cmap e ≢ name)
    (old next : Option Running) (was : session_on s.privates page ≡ old) (is : running_of (a, after) ≡ next)
    (owes : SessionGoes m answer s t page old next) where
  translation-same : (q e : ℕ) → translation_of m t q e ≡ translation_of m s q e
  translation-same q e = by (cases_eq q a)
    where
      by : (q ≡ a) ⊎ (q ≢ a) → translation_of m t q e ≡ translation_of m s q e
      by (inl same) =
          rw same
          (ap (λ (y : Private). translation_at y e)
          (new m answer s t a name number after None page limits shows within changes named of_page goes sole)
          ∙ ap (λ l. slice_index_or l e None) pmap)
      by (inr apart) = ap (λ (y : Private). translation_at y e) (private_of-other m s t a name number after None changes q apart)

  mask : (e : ℕ) → e < entry_count m → word_at m t (word.Cmap e) ≡ word_at m s (word.Cmap e)
  mask e below =
      word_at-other m s t a name number after None changes (word.Cmap e) named (grind (arith, nat_tests)) (unmasked e)

  -- with the session that comes, and all else as it was
  abbrev seen : (q e : ℕ) → View
  seen q e =
      view_of q (translation_of m s q e) (word_at m s (word.Cmap e)) (session_view m answer q e (translation_of m s q e) next)
      (place_view m (private_of m s q) e) (page_view m s (page_of m e) (translation_of m s q e))

  seen-after : (q e : ℕ) → e < entry_count m → page_of m e ≡ page → view m answer t q e ≡ seen q e
  seen-after q e below on = λ i.
      view_of q (translation-same q e i) (mask e below i) (session_view m answer q e (translation-same q e i) (there i))
      (place-same m answer s t a name number after None page limits shows within changes named of_page goes sole q e i)
      (page_view-still m answer s t a name number after page limits shows within changes named of_page goes sole
      (λ q e apart. translation-same q e) old next was is owes (page_of m e)
      (translation-same q e i) i)
    where
      there : session_on t.privates (page_of m e) ≡ next
      there = ap (session_on t.privates) on ∙ comes_on m answer s t a name number after page limits shows within changes named of_page goes
          sole (λ q e apart. translation-same q e) old next was is owes

  held-still : (q e : ℕ) → held_view m t q e ≡ held_view m s q e
  held-still q e = λ i. record {
    held = is_some (held m (changes.history i) q e);
    held_writes = has_right Store (held m (changes.history i) q e);
    same = agrees (translation-same q e i) (held m (changes.history i) q e);
  }

  entry-ok : (q e : ℕ) → q < m.nodes → e < entry_count m → page_of m e ≡ page → ViewOk (seen q e) (held_view m s q e) →
      ShowsEntry m answer t q e
  entry-ok q e inside below on view = record {
    reference = (λ i. has_reference (mask e below i) q)
        ∙ (shows.reference_is_pmap q e inside below ∙ sym (λ i. is_some (translation-same q e i)));
    view_ok = rw (seen-after q e below on) view.ok;
    invalidate_stays = rw (seen-after q e below on) view.waits;
    held_ok = rw (seen-after q e below on, held-still q e) view.held;
  }

  pub shows-going :
      page < m.pages →
      ((q e : ℕ) → q < m.nodes → e < entry_count m → page_of m e ≡ page →
      ViewOk
      (view_of q (translation_of m s q e) (word_at m s (word.Cmap e)) (session_view m answer q e (translation_of m s q e) next)
      (place_view m (private_of m s q) e) (page_view m s (page_of m e) (translation_of m s q e)))
      (held_view m s q e)) →
      IsTrue (is_word m name number) → IsReachedAlone m answer a after → Shows m answer t
  shows-going below views encoded reached =
      shows-there m answer s t a name number after page limits shows within changes named of_page goes sole
      (λ q e apart. translation-same q e) old next was is owes
      below (λ q e inside under on. entry-ok q e inside under on (views q e inside under on)) encoded reached
