-- the frame in the hand of a session is one of the machine, as its actor alone says
use Rattle.std.specs.Prelude.{◌≡◌, ℕ, ◌<◌, ◌==◌, ◌&&◌, if◌then◌else◌, Bool, true, false, Option, Some, None, is_none, IsTrue}
use Rattle.std.proofs.Common.{ap, sym, ◌∙◌, arith, subst}
use Rattle.std.specs.Option.{option_map_or}
use Rattle.std.proofs.lemmas.Bool.{and_parts}
use Rattle.plat_base.specs.Verdicts.{Answer}
use Rattle.plat_base.specs.Machine.{Machine}
use Rattle.plat_base.specs.Alike.{same_verdict}
use Rattle.plat_base.specs.Decide.{asks, is_dir, is_empty, is_frame, is_frame_on, is_some_frame, fits_cause, may_decide}
use Rattle.plat_base.specs.Directories.{dir_of}
use Rattle.plat_base.specs.declared.frames.Frame.{Frame}
use Rattle.plat_base.specs.declared.frames.Dir.{Dir}
use Rattle.plat_base.specs.declared.items.Cause.{Cause}
use Rattle.plat_base.specs.declared.items.Cause.TheVariants as cause
use Rattle.plat_base.specs.declared.policies.Verdict.TheVariants as verdict
use Rattle.plat_events.specs.Sessions.{Course, Phase, Stamping, Seeking, Taking, Returning, Shooting, Filling, Reading, Copying, Giving}
use Rattle.plat_events.specs.Sessions.{Storing, Granting, Unlocking, Session}
use Rattle.plat_events.specs.Privates.{Private, actor_count}
use Rattle.plat_events.specs.Standings.{course_of, words_filled, hand_of}
use Rattle.plat_events.specs.Kept.{Running, session_on, is_copy_of, private_of}
use Rattle.plat_events.specs.Runs.{Fine}
use Rattle.plat_events.specs.Shown.{Shows}
use Rattle.plat_laws.specs.Guests.{IsWithinLimits}
use Rattle.plat_laws.proofs.TableLaws.{dir_parts, list_all_copy_on}
use Rattle.plat_local_laws.specs.Phases.{CourseOk, SessionOk, PhaseOk}
use Rattle.plat_local_laws.specs.Alone.{PrivateOk}
use Rattle.plat_local_laws.proofs.PrivateLaws.{private_ok}
use Rattle.plat_fine_laws.proofs.TableFacts.{is_copy_of-on}
use Rattle.plat_fine_laws.proofs.SessionLaws.{RunsOn, runs_on-actor, session-ok}

-- ---- a frame that a row can use

fits-frame :
    (m : Machine) (empty on : Bool) (node : ℕ) (f : Frame) →
    (if empty then is_some_frame m (Some f) else if on then is_frame_on m node (Some f) else is_none (Some f)) ≡ true → is_frame m f ≡ true
fits-frame m true on node f h = h
fits-frame m false true node f h = (and_parts (is_frame m f) (f.module == node) h).0
fits-frame m false false node f h = absurd cc

fits_cause-frame :
    (m : Machine) (answer : Answer) (dir : Dir) (last : Option ℕ) (now node : ℕ) (c : Cause) (f : Frame) →
    fits_cause m answer dir last now node c (Some f) ≡ true → is_frame m f ≡ true
fits_cause-frame m answer dir last now node cause.Read f h =
    fits-frame m (is_empty dir.state) (asks cause.Read dir node && same_verdict (answer dir last now) verdict.Move) node f h
fits_cause-frame m answer dir last now node cause.Write f h =
    fits-frame m (is_empty dir.state) (asks cause.Write dir node && same_verdict (answer dir last now) verdict.Move) node f h
fits_cause-frame m answer dir last now node cause.Thaw f h = absurd (none (and_parts dir.frozen (is_none (Some f)) h).1)
  where
    none : false ≡ true → ⊥
    none e = cc

pub may-frame :
    (m : Machine) (answer : Answer) (dir : Dir) (last : Option ℕ) (now node : ℕ) (c : Cause) (got : Option Frame) (f : Frame) →
    may_decide m answer dir last now node c got ≡ true → got ≡ Some f → is_frame m f ≡ true
may-frame m answer dir last now node c got f may is =
    let with_it : may_decide m answer dir last now node c (Some f) ≡ true =
    ap (λ o. may_decide m answer dir last now node c o) (sym is) ∙ may in
    fits_cause-frame m answer dir last now node c f (and_parts (is_dir m dir) (fits_cause m answer dir last now node c (Some f)) with_it).1

-- ---- by phases

-- a frame in hand, and a word of it that is filled
pub record HandOk (m : Machine) (f : Frame) (w : ℕ) : Type 0 where
  pub frame : IsTrue (is_frame m f)
  pub word : w < m.words

module _ (m : Machine) (answer : Answer) (a : ℕ) (p : Private) (x : Session) (f : Frame) (w : ℕ) where
  hand-made : (c : Course) → CourseOk m answer a p x c → c.got ≡ Some f → w < m.words → HandOk m f w
  hand-made c ok got inside = record {
    frame = may-frame m answer x.dir c.stamp.last p.now a x.fault.cause c.got f ok.may got;
    word = inside;
  }

  pub hand-ok :
      (ph : Phase) → PhaseOk m answer a p x ph → option_map_or (λ (c : Course). c.got) (course_of ph) None ≡ Some f →
      w < words_filled m ph → HandOk m f w
  hand-ok Stamping ok got filled = absurd (omega arith)
  hand-ok (Seeking st i) ok got filled = absurd (omega arith)
  hand-ok (Taking st i seen) ok got filled = absurd (omega arith)
  hand-ok Returning ok got filled = absurd (omega arith)
  hand-ok (Shooting c shot) ok got filled = absurd (omega arith)
  hand-ok (Filling c k) ok got filled = let left = ok.left in hand-made c ok.quiet.course got (omega arith)
  hand-ok (Reading c k) ok got filled = let left = ok.left in hand-made c ok.quiet.course got (omega arith)
  hand-ok (Copying c k seen) ok got filled = let left = ok.fills.left in hand-made c ok.fills.quiet.course got (omega arith)
  hand-ok (Giving c k) ok got filled = hand-made c ok.quiet.course got filled
  hand-ok (Storing c) ok got filled = hand-made c ok.quiet.course got filled
  hand-ok (Granting c) ok got filled = hand-made c ok.stores.quiet.course got filled
  hand-ok (Unlocking c) ok got filled = hand-made c ok.quiet.course got filled

-- ---- in every state with the invariant

module _ (m : Machine) (answer : Answer) (s : Fine) (limits : IsWithinLimits m) (shows : Shows m answer s) where
  pub alone : (b : ℕ) → b < actor_count m → PrivateOk m answer b (private_of m s b)
  alone b inside = private_ok m answer b (private_of m s b) limits inside (shows.reached_alone b inside)

  pub running-ok : (page : ℕ) (r : Running) → session_on s.privates page ≡ Some r →
      SessionOk m answer r.actor (private_of m s r.actor) r.session
  running-ok page r on =
      let there : RunsOn m s page r = runs_on-actor m answer s page r shows on in
      session-ok m answer r.actor (private_of m s r.actor) (private_of m s r.actor).place r.session
      (alone r.actor there.actor).standing.place there.session

  pub running-page : (page : ℕ) (r : Running) → session_on s.privates page ≡ Some r → page < m.pages
  running-page page r on =
      let there : RunsOn m s page r = runs_on-actor m answer s page r shows on in
      subst (λ k. k < m.pages) there.on (running-ok page r on).fault.page

  pub hand-machine :
      (page w : ℕ) (r : Running) (f : Frame) → session_on s.privates page ≡ Some r → hand_of r.session ≡ Some f →
      w < words_filled m r.session.phase → HandOk m f w
  hand-machine page w r f on hand filled =
      hand-ok m answer r.actor (private_of m s r.actor) r.session f w r.session.phase (running-ok page r on).phase hand filled

-- a kept copy is a frame of the machine
pub kept-frame :
    (m : Machine) (answer : Answer) (s : Fine) (page : ℕ) (f : Frame) → Shows m answer s → page < m.pages →
    is_copy_of (dir_of s.history page).copies f ≡ true → is_frame m f ≡ true
kept-frame m answer s page f shows within copy =
    let dir = dir_of s.history page in let parts = dir_parts m dir (shows.copies_fit page within) in
    list_all_copy_on (is_frame m) f.module f dir.copies (is_copy_of-on 0 dir.copies f parts.1 copy) parts.0
