-- the load of a word for a copy keeps the invariant
use Rattle.std.specs.Prelude.{◌≡◌, ℕ, ◌+◌, ◌<◌, ◌&&◌, true, [], Some, None, IsTrue, sum_by}
use Rattle.std.proofs.Common.{refl, ap, sym, ◌∙◌, arith, subst}
use Rattle.plat_base.specs.Verdicts.{Answer}
use Rattle.plat_base.specs.Machine.{Machine}
use Rattle.plat_base.specs.Pages.{numbers}
use Rattle.plat_base.specs.Copies.{copy_on}
use Rattle.plat_base.specs.Decide.{is_frame, nearest}
use Rattle.plat_base.specs.declared.frames.Frame.{Frame}
use Rattle.plat_base.specs.declared.words.Op.TheVariants as op
use Rattle.plat_base.specs.declared.words.WordName.{WordName}
use Rattle.plat_base.specs.declared.words.WordName.TheVariants as word
use Rattle.plat_events.specs.Words.{has_bit}
use Rattle.plat_events.specs.Places.{is_name, is_word}
use Rattle.plat_events.specs.Sessions.{Course, Phase, Reading, Session, decision_of, memory_at, phase_after, with_phase}
use Rattle.plat_events.specs.Standings.{words_filled, word_copied}
use Rattle.plat_events.specs.Privates.{InSession, Private, actor_count}
use Rattle.plat_events.specs.Events.{at}
use Rattle.plat_events.specs.Kept.{session_of, session_on, is_kept, word_at, private_of}
use Rattle.plat_events.specs.Runs.{Fine, event}
use Rattle.plat_events.specs.Shown.{bit_of, uses_of, flat_word, Shows}
use Rattle.plat_laws.specs.Guests.{IsWithinLimits}
use Rattle.plat_laws.proofs.TableLaws.{dir_parts, has_some, copy_on-nearest, list_all_copy_on}
use Rattle.plat_local_laws.specs.Phases.{FillingOk, PhaseOk, SessionOk, copies_words}
use Rattle.plat_fine_laws.specs.Changes.{Changes}
use Rattle.plat_fine_laws.proofs.WordLaws.{KeepsWords-loaded}
use Rattle.plat_fine_laws.proofs.TableFacts.{copy_on-is}
use Rattle.plat_fine_laws.proofs.SessionFootprints.{reading-changes}
use Rattle.plat_frame_laws.specs.Phased.{running}
use Rattle.plat_frame_laws.specs.QuietPhases.{QuietPhase}
use Rattle.plat_frame_laws.proofs.SumLaws.{sum-same}
use Rattle.plat_frame_laws.proofs.FrameUseLaws.{page_uses}
use Rattle.plat_frame_laws.proofs.QuietPhaseLaws.{quiet-reading, quiet-copying}
use Rattle.plat_frame_laws.proofs.QuietGoesLaws.{hand-quiet, quiet-goes}
use Rattle.plat_frame_laws.proofs.FrameGoLaws.{kept-before, kept-still, hand-still}
use Rattle.plat_frame_laws.proofs.PhasedLaws.{shows-phased}
use Rattle.plat_local_laws.proofs.NameLaws.{copies-got}
use Rattle.plat_frame_laws.proofs.SessionHereLaws.{here, session, reached-session, taken}
use Rattle.plat_frame_laws.proofs.StoreLaws.{memory-named}
use Rattle.plat_frame_laws.proofs.StillFrameLaws.{KeepsFrames-loaded, frames-still}

module _ (m : Machine) (answer : Answer) (s : Fine) (a : ℕ) (x : Session) (c : Course) (w : ℕ) (limits : IsWithinLimits m)
    (shows : Shows m answer s) (within : a < actor_count m) (stands : (private_of m s a).place ≡ InSession x)
    (is : x.phase ≡ Reading c w) where
  abbrev p : Private
  p = private_of m s a

  abbrev page : ℕ
  page = x.fault.page

  abbrev source : Frame
  source = nearest m a x.dir.copies

  abbrev name : WordName
  name = memory_at (nearest m a x.dir.copies) w

  abbrev found : ℕ
  found = word_at m s (memory_at (nearest m a x.dir.copies) w)

  abbrev next : Phase
  next = phase_after m answer a p.now x found x.phase

  session-here : SessionOk m answer a p x
  session-here = session m answer s a x limits shows within stands

  ok : FillingOk m answer a p x c copies_words w
  ok = subst (PhaseOk m answer a p x) is session-here.phase

  inside : w < m.words
  inside = ok.left

  -- the nearest copy is one
  source-copy : copy_on source.module x.dir.copies ≡ Some source
  source-copy =
      let names = copies-got (decision_of m answer a p.now x c).action ok.action in
      let facts = taken m answer s a x limits shows within stands c ok.quiet.course names.1 in
      let some = has_some m x.dir session-here.dir (facts.0.copied names.0 names.1) in
      copy_on-nearest m a x.dir.copies some (dir_parts m x.dir session-here.dir).1

  source-frame : is_frame m source ≡ true
  source-frame = list_all_copy_on (is_frame m) source.module source x.dir.copies source-copy (dir_parts m x.dir session-here.dir).0

  named : IsTrue (is_name m name)
  named = memory-named m source w source-frame inside

  encoded : IsTrue (is_word m name found)
  encoded = shows.words_encoded name named

  changes : Changes m s (event m answer s a) a name found (at p (InSession (with_phase x next))) None
  changes = reading-changes m answer s a p x (here m answer s a x limits shows within stands) stands c w is encoded

  from : QuietPhase m answer a p.now x c x.phase w None []
  from = subst (λ (ph : Phase). QuietPhase m answer a p.now x c ph w None []) (sym is) (quiet-reading m answer a p.now x c w)

  to : QuietPhase m answer a p.now x c next w (Some (w, found)) []
  to =
      subst (λ (ph : Phase). QuietPhase m answer a p.now x c ph w (Some (w, found)) []) (sym (ap (phase_after m answer a p.now x found) is))
      (quiet-copying m answer a p.now x c w found)

  on : session_on s.privates page ≡ Some (running a p.now x)
  on = shows.one_session a x within (ap session_of stands)

  kept-same : (q : ℕ) (g : Frame) → is_kept m answer (event m answer s a) q g ≡ is_kept m answer s q g
  kept-same q g =
      kept-still m answer s (event m answer s a) a name found x next shows within stands changes named refl c w w None (Some (w, found))
      [] []
      from to refl q g

  once : (g : Frame) → IsTrue (is_frame m g) → uses_of m answer (event m answer s a) g ≡ 1
  once g machine =
      let t = event m answer s a in
      let pool : word_at m t (word.Pool g.module) ≡ word_at m s (word.Pool g.module) =
      KeepsWords-loaded m s t a name (at p (InSession (with_phase x next))) None changes (word.Pool g.module) refl in
      let pages : sum_by (page_uses m answer t g) (numbers m.pages) ≡ sum_by (page_uses m answer s g) (numbers m.pages) =
      sum-same (page_uses m answer t g) (page_uses m answer s g) m.pages
      (λ q below. λ i. bit_of (kept-same q g i)
      + bit_of (hand-still m answer s t a name found x next shows within stands changes named refl c w w None (Some (w, found)) [] []
      from to q g i)) in
      (λ i. bit_of (has_bit (pool i) g.number) + pages i) ∙ shows.frames_once g machine

  source-kept : is_kept m answer s page source ≡ true
  source-kept =
      kept-before m answer s (event m answer s a) a name found x next shows within stands changes named refl c w w None (Some (w, found))
      [] []
      from to source
      ∙ ap (λ b. b && true) (copy_on-is source.module x.dir.copies source source-copy)

  copied : (y : ℕ × ℕ) → word_copied next ≡ Some y → y.1 ≡ flat_word m s.history page y.0
  copied y read =
      let same : (w, found) ≡ y = some_same (w, found) y (sym to.copied ∙ read) in
      subst (λ (z : ℕ × ℕ). z.1 ≡ flat_word m s.history page z.0) same
      (shows.kept_flat page w source session-here.fault.page inside source-kept)
    where
      some_same : (y z : ℕ × ℕ) → Some y ≡ Some z → y ≡ z
      some_same y z e = cc

  -- a word of the nearest copy is loaded
  pub keeps_copy_load : Shows m answer (event m answer s a)
  keeps_copy_load =
      shows-phased m answer s (event m answer s a) a name found x next shows within stands changes named refl
      (quiet-goes m answer s a p.now x c next w w None (Some (w, found)) [] [] shows on from to ok.quiet.course.may session-here.dir
      (λ f none. absurd cc))
      (frames-still m answer s (event m answer s a) a p.now x next limits shows on
      (KeepsFrames-loaded m s (event m answer s a) a name (at p (InSession (with_phase x next))) changes) once
      (λ q g below kept. sym (kept-same q g) ∙ kept)
      (λ v f hand below. (
        hand-quiet m answer a p.now x c x.phase w None [] from
            ∙ (sym (hand-quiet m answer a p.now x c next w (Some (w, found)) [] to) ∙ hand),
        let most : words_filled m next ≡ w = to.filled in let was : words_filled m x.phase ≡ w = from.filled in omega arith,
      ))
      copied)
      session-here.fault.page encoded
      (reached-session m answer s a x limits shows within stands (Reading c w) name op.Load found is refl encoded)
