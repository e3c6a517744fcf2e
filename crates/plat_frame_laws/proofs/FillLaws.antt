-- the store of an initial value in the frame of a fill, and of a word that was read for a copy, keep the invariant
use Rattle.std.specs.Prelude.{◌≡◌, ℕ, ◌+◌, ◌<◌, true, [], Some, None}
use Rattle.std.proofs.Common.{refl, ap, sym, ◌∙◌, arith, subst}
use Rattle.plat_base.specs.Verdicts.{Answer}
use Rattle.plat_base.specs.Machine.{Machine}
use Rattle.plat_base.specs.Pages.{initial_value}
use Rattle.plat_base.specs.Directories.{dir_of}
use Rattle.plat_base.specs.Decide.{is_empty}
use Rattle.plat_base.specs.declared.frames.Dir.{Dir}
use Rattle.plat_base.specs.declared.frames.Frame.{Frame}
use Rattle.plat_base.specs.declared.words.Op.TheVariants as op
use Rattle.plat_base.proofs.LimitLemmas.{initial_value-below}
use Rattle.plat_words.proofs.Numbers.{is_data_word-word}
use Rattle.plat_events.specs.Words.{data_word}
use Rattle.plat_events.specs.Sessions.{Course, Phase, Filling, Copying, Session, decision_of, memory_at, phase_after}
use Rattle.plat_events.specs.Standings.{word_copied}
use Rattle.plat_events.specs.Privates.{InSession, Private, actor_count}
use Rattle.plat_events.specs.Kept.{session_of, session_on, private_of}
use Rattle.plat_events.specs.Runs.{Fine, event, ends_of}
use Rattle.plat_events.specs.Shown.{Shows}
use Rattle.plat_laws.specs.Guests.{IsWithinLimits}
use Rattle.plat_local_laws.specs.Phases.{FillingOk, CopyingOk, PhaseOk, SessionOk, fills_words}
use Rattle.plat_fine_laws.proofs.SessionFootprints.{filling-changes, copying-changes}
use Rattle.plat_frame_laws.specs.Phased.{running}
use Rattle.plat_frame_laws.specs.QuietPhases.{QuietPhase}
use Rattle.plat_frame_laws.proofs.UnwrittenLaws.{good-unwritten}
use Rattle.plat_frame_laws.proofs.QuietPhaseLaws.{quiet-filling, quiet-copying, quiet-fill_from, quiet-copy_from}
use Rattle.plat_local_laws.proofs.NameLaws.{copies-got}
use Rattle.plat_frame_laws.proofs.SessionHereLaws.{here, session, reached-session, taken, fills-got}
use Rattle.plat_frame_laws.proofs.StoreLaws.{shows-stored}

module _ (m : Machine) (answer : Answer) (s : Fine) (a : ℕ) (x : Session) (limits : IsWithinLimits m) (shows : Shows m answer s)
    (within : a < actor_count m) (stands : (private_of m s a).place ≡ InSession x) where
  abbrev p : Private
  p = private_of m s a

  on : session_on s.privates x.fault.page ≡ Some (running a p.now x)
  on = shows.one_session a x within (ap session_of stands)

  -- an initial value is stored in the frame of a page that was empty
  pub keeps_fill : (c : Course) (w : ℕ) → x.phase ≡ Filling c w → Shows m answer (event m answer s a)
  keeps_fill c w is =
      let ok : FillingOk m answer a p x c fills_words w = subst (PhaseOk m answer a p x) is session-here.phase in
      let names = fills-got (decision_of m answer a p.now x c).action ok.action in
      let facts = taken m answer s a x limits shows within stands c ok.quiet.course names.1 in
      let f : Frame = (decision_of m answer a p.now x c).frame in
      let next : Phase = phase_after m answer a p.now x 0 x.phase in
      let leads : phase_after m answer a p.now x 0 x.phase ≡ phase_after m answer a p.now x 0 (Filling c w) =
      ap (phase_after m answer a p.now x 0) is in
      let below : w < m.words = ok.left in
      let from : QuietPhase m answer a p.now x c x.phase w None [] =
      subst (λ (ph : Phase). QuietPhase m answer a p.now x c ph w None []) (sym is) (quiet-filling m answer a p.now x c w) in
      let to : QuietPhase m answer a p.now x c next (w + 1) None [] =
      subst (λ (ph : Phase). QuietPhase m answer a p.now x c ph (w + 1) None []) (sym leads)
      (quiet-fill_from m answer a p.now x c (w + 1) (omega arith)) in
      let empty : is_empty (dir_of s.history x.fault.page).state ≡ true =
      ap (λ (d : Dir). is_empty d.state) (sym (shows.dir_read_is x.fault.page (running a p.now x) on)) ∙ facts.0.fills names.0 in
      let unwritten = good-unwritten m answer s.history (ends_of m s.privates) x.fault.page w shows.history_good empty in
      shows-stored m answer s (event m answer s a) a x next f w (data_word (initial_value m x.fault.page w) 0) limits shows within stands
      (filling-changes m answer s a p x (here m answer s a x limits shows within stands) stands c w is)
      c None from to facts.1 below ok.quiet.course.may session-here.fault.page
      (λ i. data_word (sym unwritten.0 i) (sym unwritten.1 i))
      (is_data_word-word m (initial_value m x.fault.page w) 0 (omega (arith, initial_value-below m x.fault.page w limits)) (omega arith)
      (omega arith))
      session-here.dir
      (reached-session m answer s a x limits shows within stands (Filling c w) (memory_at f w)
      (op.Store (data_word (initial_value m x.fault.page w) 0)) 0 is refl refl)
    where
      session-here : SessionOk m answer a (private_of m s a) x
      session-here = session m answer s a x limits shows within stands

  -- a word that was read is stored in the frame of a copy
  pub keeps_copy_store : (c : Course) (w seen : ℕ) → x.phase ≡ Copying c w seen → Shows m answer (event m answer s a)
  keeps_copy_store c w seen is =
      let ok : CopyingOk m answer a p x c w seen = subst (PhaseOk m answer a p x) is session-here.phase in
      let names = copies-got (decision_of m answer a p.now x c).action ok.fills.action in
      let facts = taken m answer s a x limits shows within stands c ok.fills.quiet.course names.1 in
      let f : Frame = (decision_of m answer a p.now x c).frame in
      let next : Phase = phase_after m answer a p.now x 0 x.phase in
      let leads : phase_after m answer a p.now x 0 x.phase ≡ phase_after m answer a p.now x 0 (Copying c w seen) =
      ap (phase_after m answer a p.now x 0) is in
      let below : w < m.words = ok.fills.left in
      let from : QuietPhase m answer a p.now x c x.phase w (Some (w, seen)) [] =
      subst (λ (ph : Phase). QuietPhase m answer a p.now x c ph w (Some (w, seen)) []) (sym is)
      (quiet-copying m answer a p.now x c w seen) in
      let to : QuietPhase m answer a p.now x c next (w + 1) None [] =
      subst (λ (ph : Phase). QuietPhase m answer a p.now x c ph (w + 1) None []) (sym leads)
      (quiet-copy_from m answer a p.now x c (w + 1) (omega arith)) in
      shows-stored m answer s (event m answer s a) a x next f w seen limits shows within stands
      (copying-changes m answer s a p x (here m answer s a x limits shows within stands) stands c w seen is)
      c (Some (w, seen)) from to facts.1 below ok.fills.quiet.course.may session-here.fault.page
      (shows.read_flat x.fault.page (running a p.now x) (w, seen) on (ap word_copied is)) ok.word session-here.dir
      (reached-session m answer s a x limits shows within stands (Copying c w seen) (memory_at f w) (op.Store seen) 0 is refl refl)
    where
      session-here : SessionOk m answer a (private_of m s a) x
      session-here = session m answer s a x limits shows within stands
