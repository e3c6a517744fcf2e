-- a word of the only copy of a page is written: the words of all frames are those of flat memory behind it
use Rattle.std.specs.Prelude.{◌≡◌, ◌≢◌, ◌⊎◌, ℕ, ◌<◌, ◌&&◌, ◌||◌, not, Bool, true, false, Option, Some, IsTrue}
use Rattle.std.proofs.Common.{refl, ap, sym, ◌∙◌, inl, inr}
use Rattle.std.specs.Option.{option_map_or}
use Rattle.std.proofs.lemmas.Bool.{cases_eq, true≢false}
use Rattle.plat_base.specs.Verdicts.{Answer}
use Rattle.plat_base.specs.Machine.{Machine}
use Rattle.plat_base.specs.Copies.{same_frame}
use Rattle.plat_base.specs.Directories.{dir_of}
use Rattle.plat_base.specs.Decide.{is_dir, is_frame}
use Rattle.plat_base.specs.declared.frames.Frame.{Frame}
use Rattle.plat_base.specs.declared.frames.Dir.{Dir}
use Rattle.plat_base.specs.declared.frames.State.TheVariants as state
use Rattle.plat_base.specs.declared.items.Item.{Item}
use Rattle.plat_base.specs.declared.items.Removed.TheVariants as removed
use Rattle.plat_base.proofs.CopiesLemmas.{same_frame-itself}
use Rattle.plat_events.specs.Words.{data_word}
use Rattle.plat_events.specs.Places.{is_name}
use Rattle.plat_events.specs.Sessions.{memory_at}
use Rattle.plat_events.specs.Privates.{Private}
use Rattle.plat_events.specs.Standings.{is_quiet, words_filled, word_copied, hand_of, removes_by}
use Rattle.plat_events.specs.Kept.{Running, session_on, gave_back, is_copy_of, is_kept, private_of}
use Rattle.plat_events.specs.Runs.{Fine}
use Rattle.plat_events.specs.Shown.{is_hand, flat_word, frame_word, Shows}
use Rattle.plat_laws.specs.Guests.{IsWithinLimits}
use Rattle.plat_laws.proofs.TableLaws.{dir_parts}
use Rattle.plat_laws.proofs.CopyLaws.{only_copy}
use Rattle.plat_local_laws.specs.Phases.{SessionOk}
use Rattle.plat_fine_laws.specs.Changes.{Changes, KeepsPage, KeepsFlat, ShowsFlat}
use Rattle.plat_fine_laws.proofs.WordLaws.{word_at-new, word_at-other}
use Rattle.plat_fine_laws.proofs.SessionLaws.{RunsOn, runs_on-actor}
use Rattle.plat_fine_laws.proofs.TableFacts.{is_copy_of-on}
use Rattle.plat_frame_laws.proofs.FrameUseLaws.{page_uses, used-apart, kept-uses, unused-kept, unused-hand}
use Rattle.plat_frame_laws.proofs.HandLaws.{HandOk, running-ok, running-page, hand-machine, kept-frame}
use Rattle.plat_frame_laws.proofs.StoreLaws.{memory_frame, memory-named}
use Rattle.plat_access_laws.proofs.ModifiedLaws.{filled-quiet, copied-quiet, hand-removes, copied-removes}
use Rattle.plat_laws.proofs.Limits.{and-left}
use Rattle.plat_laws.proofs.SameLaws.{same_frame-true}

-- a modified page has one copy
one-copy :
    (m : Machine) (dir : Dir) (f g : Frame) → is_dir m dir ≡ true → dir.state ≡ state.Modified → is_copy_of dir.copies f ≡ true →
    is_copy_of dir.copies g ≡ true → g ≡ f
one-copy m dir f g fits modified copy other =
    let on = is_copy_of-on 0 dir.copies f (dir_parts m dir fits).1 copy in
    let only = only_copy m dir f fits modified on in
    same_frame-true g f (first (same_frame g f) (ap (λ fs. is_copy_of fs g) (sym only.1) ∙ other))
  where
    first : (b : Bool) → (b || false) ≡ true → b ≡ true
    first true h = refl
    first false h = absurd cc

-- a quiet session on the page removes nothing
abbrev pub RemovesNothing : Machine → Answer → Fine → (page : ℕ) → Type 0
RemovesNothing m answer s page =
    (r : Running) → session_on s.privates page ≡ Some r → is_quiet r.session.phase ≡ true →
    removes_by m answer r.actor r.now r.session ≡ removed.Nothing

-- then on a modified page it has no word filled, and none read for a copy
module _ (m : Machine) (answer : Answer) (s : Fine) (page : ℕ) (limits : IsWithinLimits m) (shows : Shows m answer s)
    (modified : (dir_of s.history page).state ≡ state.Modified) (silent : RemovesNothing m answer s page)
    (r : Running) (on : session_on s.privates page ≡ Some r) where
  there : RunsOn m s page r
  there = runs_on-actor m answer s page r shows on

  ok : SessionOk m answer r.actor (private_of m s r.actor) r.session
  ok = running-ok m answer s limits shows page r on

  read-modified : r.session.dir.state ≡ state.Modified
  read-modified = ap (λ (d : Dir). d.state) (shows.dir_read_is page r on) ∙ modified

  removes-none :
      is_quiet r.session.phase ≡ true →
      removes_by m answer r.actor (private_of m s r.actor).now r.session ≡ removed.Nothing
  removes-none quiet = ap (λ n. removes_by m answer r.actor n r.session) (sym there.now) ∙ silent r on quiet

  none-filled : (w : ℕ) (f : Frame) → hand_of r.session ≡ Some f → w < words_filled m r.session.phase → ⊥
  none-filled w f hand below =
      let quiet = filled-quiet m w r.session.phase below in
      hand-removes m answer r.actor (private_of m s r.actor) r.session read-modified f r.session.phase ok.phase hand quiet
      (removes-none quiet)

  none-read : (y : ℕ × ℕ) → word_copied r.session.phase ≡ Some y → ⊥
  none-read y read =
      copied-removes m answer r.actor (private_of m s r.actor) r.session read-modified y r.session.phase ok.phase read
      (removes-none (copied-quiet y r.session.phase read))

module _ (m : Machine) (answer : Answer) (s t : Fine) (a page w value : ℕ) (f : Frame) (p : Private) (made : Option Item)
    (limits : IsWithinLimits m) (shows : Shows m answer s) (changes : Changes m s t a (memory_at f w) value p made)
    (keeps : (q : ℕ) → KeepsPage s t q) (page_below : page < m.pages) (word_below : w < m.words)
    (kept : is_kept m answer s page f ≡ true) (modified : (dir_of s.history page).state ≡ state.Modified)
    (silent : RemovesNothing m answer s page) (new : value ≡ flat_word m t.history page w)
    (flats : (q v : ℕ) → (q ≡ page → v ≡ w → ⊥) → KeepsFlat m s t q v) where
  copy : is_copy_of (dir_of s.history page).copies f ≡ true
  copy = and-left (is_copy_of (dir_of s.history page).copies f) (not (gave_back m answer (session_on s.privates page) f)) kept

  frame : is_frame m f ≡ true
  frame = kept-frame m answer s page f shows page_below copy

  named : IsTrue (is_name m (memory_at f w))
  named = memory-named m f w frame word_below

  written : frame_word m t f w ≡ value
  written = word_at-new m s t a (memory_at f w) value p made changes shows.all_words named

  other-word : (g : Frame) (v : ℕ) → is_frame m g ≡ true → v < m.words → (g ≡ f → v ≡ w → ⊥) → frame_word m t g v ≡ frame_word m s g v
  other-word g v machine inside apart =
      word_at-other m s t a (memory_at f w) value p made changes (memory_at g v) named (memory-named m g v machine inside)
      (λ e. let same = memory_frame g f v w e in apart same.0 same.1)

  flat-same : (q v : ℕ) → (q ≡ page → v ≡ w → ⊥) → flat_word m s.history q v ≡ flat_word m t.history q v
  flat-same q v apart = λ i. data_word (sym (flats q v apart).value i) (sym (flats q v apart).writes i)

  -- the frame is of this page alone
  elsewhere : (q : ℕ) → q < m.pages → q ≢ page → page_uses m answer s f q ≡ 0
  elsewhere q inside apart =
      used-apart m answer s f (shows.frames_once f frame) page page_below (kept-uses m answer s f page kept) q inside apart

  kept-same : (q : ℕ) (g : Frame) → is_kept m answer t q g ≡ is_kept m answer s q g
  kept-same q g = λ i. is_copy_of ((keeps q).dir i).copies g && not (gave_back m answer ((keeps q).session i) g)

  kept-flat :
      (q v : ℕ) (g : Frame) → q < m.pages → v < m.words → is_kept m answer s q g ≡ true → frame_word m t g v ≡ flat_word m t.history q v
  kept-flat q v g q_below v_below is = by (cases_eq q page) (cases_eq v w)
    where
      held : is_copy_of (dir_of s.history q).copies g ≡ true
      held = and-left (is_copy_of (dir_of s.history q).copies g) (not (gave_back m answer (session_on s.privates q) g)) is

      still : (g ≡ f → v ≡ w → ⊥) → (q ≡ page → v ≡ w → ⊥) → frame_word m t g v ≡ flat_word m t.history q v
      still frames words =
          other-word g v (kept-frame m answer s q g shows q_below held) v_below frames
          ∙ (shows.kept_flat q v g q_below v_below is ∙ flat-same q v words)

      by : (q ≡ page) ⊎ (q ≢ page) → (v ≡ w) ⊎ (v ≢ w) → frame_word m t g v ≡ flat_word m t.history q v
      by (inl here) (inl there) =
          let same : g ≡ f =
          one-copy m (dir_of s.history page) f g (shows.copies_fit page page_below) modified copy
          (ap (λ k. is_copy_of (dir_of s.history k).copies g) (sym here) ∙ held) in
          (λ i. frame_word m t (same i) (there i)) ∙ (written ∙ (new ∙ (λ i. flat_word m t.history (sym here i) (sym there i))))
      by (inl here) (inr other) = still (λ _ e. other e) (λ _ e. other e)
      by (inr other) words =
          still
          (λ same _. true≢false (sym (ap (is_kept m answer s q) (sym same) ∙ is) ∙ unused-kept m answer s f q (elsewhere q q_below other)))
          (λ e _. other e)

  hand-flat :
      (q v : ℕ) (r : Running) (g : Frame) → session_on s.privates q ≡ Some r → hand_of r.session ≡ Some g →
      v < words_filled m r.session.phase → frame_word m t g v ≡ flat_word m t.history q v
  hand-flat q v r g on hand filled = by (cases_eq q page)
    where
      by : (q ≡ page) ⊎ (q ≢ page) → frame_word m t g v ≡ flat_word m t.history q v
      by (inl here) =
          absurd (none-filled m answer s page limits shows modified silent r (ap (session_on s.privates) (sym here) ∙ on) v g hand filled)
      by (inr other) =
          let ok : HandOk m g v = hand-machine m answer s limits shows q v r g on hand filled in
          other-word g v ok.frame ok.word (λ same _. clash same)
          ∙ (shows.hand_flat q v r g on hand filled ∙ flat-same q v (λ e _. other e))
        where
          clash : g ≡ f → ⊥
          clash same =
              let in_hand : is_hand (session_on s.privates q) f ≡ true =
              ap (λ o. is_hand o f) on
              ∙ (ap (λ (o : Option Frame). option_map_or (same_frame f) o false) (hand ∙ ap (λ (y : Frame). Some y) same)
              ∙ same_frame-itself f) in
              true≢false
              (sym in_hand ∙ unused-hand m answer s f q (elsewhere q (running-page m answer s limits shows q r on) other))

  read-flat :
      (q : ℕ) (r : Running) (y : ℕ × ℕ) → session_on s.privates q ≡ Some r → word_copied r.session.phase ≡ Some y →
      y.1 ≡ flat_word m t.history q y.0
  read-flat q r y on read = by (cases_eq q page)
    where
      by : (q ≡ page) ⊎ (q ≢ page) → y.1 ≡ flat_word m t.history q y.0
      by (inl here) =
          absurd (none-read m answer s page limits shows modified silent r (ap (session_on s.privates) (sym here) ∙ on) y read)
      by (inr other) = shows.read_flat q r y on read ∙ flat-same q y.0 (λ e _. other e)

  pub flat-written : ShowsFlat m answer t
  flat-written = record {
    kept_flat = λ q v g q_below v_below is. kept-flat q v g q_below v_below (sym (kept-same q g) ∙ is);
    hand_flat = λ q v r g on hand filled. hand-flat q v r g (sym (keeps q).session ∙ on) hand filled;
    read_flat = λ q r y on read. read-flat q r y (sym (keeps q).session ∙ on) read;
  }
