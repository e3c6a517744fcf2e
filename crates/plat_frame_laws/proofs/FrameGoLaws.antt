-- what is kept, and what is in hand, where a session behind its shootdown goes on
use Rattle.std.specs.Prelude.{◌≡◌, ◌≢◌, ℕ, ◌<◌, ◌&&◌, not, true, List, Option, Some, None, IsTrue}
use Rattle.std.proofs.Common.{ap, sym, ◌∙◌}
use Rattle.std.specs.List.{list_any}
use Rattle.plat_base.specs.Verdicts.{Answer}
use Rattle.plat_base.specs.Machine.{Machine}
use Rattle.plat_base.specs.Copies.{same_frame}
use Rattle.plat_base.specs.Directories.{dir_of}
use Rattle.plat_base.specs.declared.frames.Frame.{Frame}
use Rattle.plat_base.specs.declared.words.WordName.{WordName}
use Rattle.plat_events.specs.Places.{is_name}
use Rattle.plat_events.specs.Sessions.{Course, Phase, Session, with_phase}
use Rattle.plat_events.specs.Privates.{InSession, actor_count}
use Rattle.plat_events.specs.Events.{at}
use Rattle.plat_events.specs.Kept.{session_on, gave_back, is_copy_of, is_kept, private_of}
use Rattle.plat_events.specs.Runs.{Fine}
use Rattle.plat_events.specs.Shown.{is_hand, Shows}
use Rattle.plat_fine_laws.specs.Changes.{Changes}
use Rattle.plat_fine_laws.proofs.FrameFieldLaws.{is_kept-same}
use Rattle.plat_frame_laws.specs.Phased.{is_of_frames, running}
use Rattle.plat_frame_laws.specs.QuietPhases.{QuietPhase}
use Rattle.plat_frame_laws.proofs.PhasedLaws.{ran, runs, keeps}
use Rattle.plat_frame_laws.proofs.PhasedLaws
use Rattle.plat_frame_laws.proofs.QuietGoesLaws.{given-quiet, hand-quiet}

module _ (m : Machine) (answer : Answer) (s t : Fine) (a : ℕ) (name : WordName) (number : ℕ) (x : Session) (next : Phase)
    (shows : Shows m answer s) (within : a < actor_count m) (stands : (private_of m s a).place ≡ InSession x)
    (changes : Changes m s t a name number (at (private_of m s a) (InSession (with_phase x next))) None)
    (named : IsTrue (is_name m name)) (frames : is_of_frames name ≡ true)
    (c : Course) (words words' : ℕ) (read read' : Option (ℕ × ℕ)) (gone gone' : List Frame)
    (from : QuietPhase m answer a (private_of m s a).now x c x.phase words read gone)
    (to : QuietPhase m answer a (private_of m s a).now x c next words' read' gone') where
  abbrev now : ℕ
  now = (private_of m s a).now

  abbrev page : ℕ
  page = x.fault.page

  there : session_on s.privates page ≡ Some (running a now x)
  there = ran m answer s t a name number x next shows within stands changes named frames

  then : session_on t.privates page ≡ Some (running a now (with_phase x next))
  then = runs m answer s t a name number x next shows within stands changes named frames

  dir-before : dir_of s.history page ≡ x.dir
  dir-before = sym (shows.dir_read_is page (running a now x) there)

  history-same : t.history ≡ s.history
  history-same = changes.history

  -- what is kept of the session's page, before and after
  pub kept-before : (f : Frame) → is_kept m answer s page f ≡ (is_copy_of x.dir.copies f && not (list_any (same_frame f) gone))
  kept-before f =
      let back : gave_back m answer (session_on s.privates page) f ≡ list_any (same_frame f) gone =
      ap (λ o. gave_back m answer o f) there ∙ given-quiet m answer a now x c x.phase words read gone from f in
      λ i. is_copy_of (dir-before i).copies f && not (back i)

  pub kept-after : (f : Frame) → is_kept m answer t page f ≡ (is_copy_of x.dir.copies f && not (list_any (same_frame f) gone'))
  kept-after f =
      let back : gave_back m answer (session_on t.privates page) f ≡ list_any (same_frame f) gone' =
      ap (λ o. gave_back m answer o f) then ∙ given-quiet m answer a now x c next words' read' gone' to f in
      let dir : dir_of t.history page ≡ x.dir = ap (λ h. dir_of h page) history-same ∙ dir-before in
      λ i. is_copy_of (dir i).copies f && not (back i)

  pub kept-other : (q : ℕ) (f : Frame) → q ≢ page → is_kept m answer t q f ≡ is_kept m answer s q f
  kept-other q f apart =
      is_kept-same m answer s t q f (keeps m answer s t a name number x next shows within stands changes named frames q apart)

  -- where no frame is given back
  pub kept-still : gone' ≡ gone → (q : ℕ) (f : Frame) → is_kept m answer t q f ≡ is_kept m answer s q f
  kept-still same =
      PhasedLaws.kept-still m answer s t a name number x next shows within stands changes named frames
      (λ f. given-quiet m answer a now x c next words' read' gone' to f
      ∙ (ap (list_any (same_frame f)) same ∙ sym (given-quiet m answer a now x c x.phase words read gone from f)))

  pub hand-still : (q : ℕ) (f : Frame) → is_hand (session_on t.privates q) f ≡ is_hand (session_on s.privates q) f
  hand-still =
      PhasedLaws.hand-still m answer s t a name number x next shows within stands changes named frames
      (hand-quiet m answer a now x c next words' read' gone' to ∙ sym (hand-quiet m answer a now x c x.phase words read gone from))
