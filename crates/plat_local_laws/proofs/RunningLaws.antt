-- the session of an actor, wherever it stands: its facts, its posts, the frame in hand, and what it removes
use Rattle.std.proofs.Common.{◌≡◌, ◌≢◌, ℕ, Bool, true, false, length, Some, None, refl, ap, sym, subst, ◌∙◌, inl, inr}
use Rattle.std.specs.Prelude.{◌==◌, ◌&&◌, not, if◌then◌else◌, Option, is_none}
use Rattle.std.proofs.lemmas.Bool.{and_parts, eqb-true}
use Rattle.plat_base.specs.Verdicts.{Answer}
use Rattle.plat_base.specs.Machine.{Machine}
use Rattle.plat_base.specs.Pages.{entries_of_page}
use Rattle.plat_base.specs.Copies.{copy_on}
use Rattle.plat_base.specs.Messages.{removes_some}
use Rattle.plat_base.specs.Alike.{same_verdict}
use Rattle.plat_base.specs.Decide.{is_dir, is_empty, is_frame, is_some_frame, is_frame_on, fits_fault, fits_cause, asks}
use Rattle.plat_base.specs.declared.frames.Frame.{Frame}
use Rattle.plat_base.specs.declared.frames.Dir.{Dir}
use Rattle.plat_base.specs.declared.frames.State.TheVariants as state
use Rattle.plat_base.specs.declared.items.Cause.{Cause}
use Rattle.plat_base.specs.declared.items.Cause.TheVariants as cause
use Rattle.plat_base.specs.declared.items.Moment.{Moment}
use Rattle.plat_base.specs.declared.items.Moment.TheVariants as moment
use Rattle.plat_base.specs.declared.items.Removed.TheVariants as removed
use Rattle.plat_base.specs.declared.policies.Verdict.TheVariants as verdict
use Rattle.plat_laws.proofs.TableLaws.{copy_on-empty}
use Rattle.plat_events.specs.Sessions.{Fault, Course, Phase, Stamping, Seeking, Taking, Returning, Shooting, Filling, Reading, Copying}
use Rattle.plat_events.specs.Sessions.{Giving, Storing, Granting, Unlocking, Session, decision_of}
use Rattle.plat_events.specs.Privates.{Onward, NewTurn, TurnOver, Relock, Rewait, Place, Polling, Looking, Applying, Ticking, Switching}
use Rattle.plat_events.specs.Privates.{Loading, Expecting, Exchanging, Locking, InSession, Leaving, Lessening, Gone, LiveLooking}
use Rattle.plat_events.specs.Privates.{TimeLooking, Over, Private}
use Rattle.plat_events.specs.Standings.{course_of, is_quiet, posts_of, removes_by}
use Rattle.plat_events.specs.Kept.{session_behind, session_of, scan_left, activation_at}
use Rattle.plat_local_laws.specs.Faults.{FaultOk}
use Rattle.plat_local_laws.specs.Phases.{CourseOk, PhaseOk, SessionOk}
use Rattle.plat_local_laws.specs.Standing.{leads_to, OnwardOk, PlaceOk}
use Rattle.plat_local_laws.proofs.SessionLaws.{session_at}
use Rattle.plat_local_laws.proofs.CourseLaws.{IsActor, cause-fault, fault_decides, thaw_decides, fits_cause-fault}

-- ---- the session of a place

session-same : (m : Machine) (answer : Answer) (a : ℕ) (p : Private) (x s : Session) → SessionOk m answer a p x → Some x ≡ Some s →
    SessionOk m answer a p s
session-same m answer a p x s h k = let same : x ≡ s = cc in subst (SessionOk m answer a p) same h

behind-session :
    (m : Machine) (answer : Answer) (a : ℕ) (p : Private) (onward : Onward) (s : Session) → OnwardOk m answer a p onward
    → session_behind onward ≡ Some s → SessionOk m answer a p s
behind-session m answer a p NewTurn s h k = absurd cc
behind-session m answer a p TurnOver s h k = absurd cc
behind-session m answer a p (Relock fault) s h k = absurd cc
behind-session m answer a p (Rewait x) s h k = session-same m answer a p x s h.session k

-- a session has its facts, in its polls and scans too
pub place-session :
    (m : Machine) (answer : Answer) (a : ℕ) (p : Private) (place : Place) (s : Session) → PlaceOk m answer a p place
    → session_of place ≡ Some s → SessionOk m answer a p s
place-session m answer a p (Polling onward) s h k = behind-session m answer a p onward s h.behind k
place-session m answer a p (Looking i moment onward) s h k = behind-session m answer a p onward s h.behind k
place-session m answer a p (Applying i message moment onward) s h k = behind-session m answer a p onward s h.behind k
place-session m answer a p Ticking s h k = absurd cc
place-session m answer a p (Switching space) s h k = absurd cc
place-session m answer a p Loading s h k = absurd cc
place-session m answer a p Expecting s h k = absurd cc
place-session m answer a p (Exchanging seen) s h k = absurd cc
place-session m answer a p (Locking fault) s h k = absurd cc
place-session m answer a p (InSession x) s h k = session-same m answer a p x s h k
place-session m answer a p (Leaving e) s h k = absurd cc
place-session m answer a p (Lessening e) s h k = absurd cc
place-session m answer a p (Gone e) s h k = absurd cc
place-session m answer a p LiveLooking s h k = absurd cc
place-session m answer a p TimeLooking s h k = absurd cc
place-session m answer a p Over s h k = absurd cc

-- no activation scan is under way in a session
scan-session : (moment : Moment) (onward : Onward) (i : ℕ) (s : Session) → leads_to moment onward ≡ true → session_behind onward ≡ Some s →
    scan_left moment i ≡ None
scan-session moment.Interrupt onward i s h k = refl
scan-session moment.Activation NewTurn i s h k = absurd cc
scan-session moment.Activation TurnOver i s h k = absurd cc
scan-session moment.Activation (Relock fault) i s h k = absurd cc
scan-session moment.Activation (Rewait x) i s h k = absurd cc

pub session-no_activation :
    (m : Machine) (answer : Answer) (a : ℕ) (p : Private) (place : Place) (s : Session) → PlaceOk m answer a p place
    → session_of place ≡ Some s → activation_at place ≡ None
session-no_activation m answer a p (Polling onward) s h k = refl
session-no_activation m answer a p (Looking i moment onward) s h k = scan-session moment onward i s h.leads k
session-no_activation m answer a p (Applying i message moment onward) s h k = scan-session moment onward i s h.leads k
session-no_activation m answer a p Ticking s h k = refl
session-no_activation m answer a p (Switching space) s h k = refl
session-no_activation m answer a p Loading s h k = refl
session-no_activation m answer a p Expecting s h k = refl
session-no_activation m answer a p (Exchanging seen) s h k = refl
session-no_activation m answer a p (Locking fault) s h k = refl
session-no_activation m answer a p (InSession x) s h k = refl
session-no_activation m answer a p (Leaving e) s h k = refl
session-no_activation m answer a p (Lessening e) s h k = refl
session-no_activation m answer a p (Gone e) s h k = refl
session-no_activation m answer a p LiveLooking s h k = refl
session-no_activation m answer a p TimeLooking s h k = refl
session-no_activation m answer a p Over s h k = refl

-- ---- the row, by phase

course-same : (m : Machine) (answer : Answer) (a : ℕ) (p : Private) (s : Session) (x c : Course) → CourseOk m answer a p s x →
    Some x ≡ Some c → CourseOk m answer a p s c
course-same m answer a p s x c h k = let same : x ≡ c = cc in subst (CourseOk m answer a p s) same h

pub phase-course :
    (m : Machine) (answer : Answer) (a : ℕ) (p : Private) (s : Session) (phase : Phase) (c : Course) → PhaseOk m answer a p s phase
    → course_of phase ≡ Some c → CourseOk m answer a p s c
phase-course m answer a p s Stamping c h k = absurd cc
phase-course m answer a p s (Seeking st i) c h k = absurd cc
phase-course m answer a p s (Taking st i seen) c h k = absurd cc
phase-course m answer a p s Returning c h k = absurd cc
phase-course m answer a p s (Shooting x shot) c h k = course-same m answer a p s x c h.course k
phase-course m answer a p s (Filling x w) c h k = course-same m answer a p s x c h.quiet.course k
phase-course m answer a p s (Reading x w) c h k = course-same m answer a p s x c h.quiet.course k
phase-course m answer a p s (Copying x w seen) c h k = course-same m answer a p s x c h.fills.quiet.course k
phase-course m answer a p s (Giving x n) c h k = course-same m answer a p s x c h.quiet.course k
phase-course m answer a p s (Storing x) c h k = course-same m answer a p s x c h.quiet.course k
phase-course m answer a p s (Granting x) c h k = course-same m answer a p s x c h.stores.quiet.course k
phase-course m answer a p s (Unlocking x) c h k = course-same m answer a p s x c h.quiet.course k

-- where something is removed, a quiet session has made a post for each entry of its page
quiet-posts :
    (m : Machine) (answer : Answer) (a : ℕ) (p : Private) (f : Fault) (d : Dir) (phase : Phase)
    → PhaseOk m answer a p (session_at f d phase) phase → is_quiet phase ≡ true
    → removes_some (removes_by m answer a p.now (session_at f d phase)) ≡ true
    → length (posts_of (session_at f d phase)) ≡ length (entries_of_page m f.page)
quiet-posts m answer a p f d Stamping h q r = absurd cc
quiet-posts m answer a p f d (Seeking st i) h q r = absurd cc
quiet-posts m answer a p f d (Taking st i seen) h q r = absurd cc
quiet-posts m answer a p f d Returning h q r = absurd cc
quiet-posts m answer a p f d (Shooting x shot) h q r = absurd cc
quiet-posts m answer a p f d (Filling x w) h q r = h.quiet.posted r
quiet-posts m answer a p f d (Reading x w) h q r = h.quiet.posted r
quiet-posts m answer a p f d (Copying x w seen) h q r = h.fills.quiet.posted r
quiet-posts m answer a p f d (Giving x n) h q r = h.quiet.posted r
quiet-posts m answer a p f d (Storing x) h q r = h.quiet.posted r
quiet-posts m answer a p f d (Granting x) h q r = h.stores.quiet.posted r
quiet-posts m answer a p f d (Unlocking x) h q r = h.quiet.posted r

pub session-posts :
    (m : Machine) (answer : Answer) (a : ℕ) (p : Private) (s : Session) → SessionOk m answer a p s → is_quiet s.phase ≡ true
    → removes_some (removes_by m answer a p.now s) ≡ true → length (posts_of s) ≡ length (entries_of_page m s.fault.page)
session-posts m answer a p s h q r = quiet-posts m answer a p s.fault s.dir s.phase h.phase q r

-- ---- the frame in hand

got_fits :
    (m : Machine) (b : Dir) (c : Cause) (moves : Bool) (node : ℕ) (f : Frame) → is_dir m b ≡ true
    → fits_fault m b (asks c b node) moves node (Some f) ≡ true → c ≢ cause.Thaw
    → (is_frame m f ≡ true) × (copy_on f.module b.copies ≡ None)
got_fits m b c moves node f h k t = by (is_empty b.state) (asks c b node) moves refl refl k
  where
    none : (x : Option Frame) → is_none x ≡ true → x ≡ None
    none None e = refl
    none (Some g) e = absurd cc

    asked : (x : Cause) → x ≢ cause.Thaw → asks x b node ≡ true → copy_on node b.copies ≡ None
    asked cause.Read n e = none (copy_on node b.copies) (and_parts (not (is_empty b.state)) (is_none (copy_on node b.copies)) e).1
    asked cause.Write n e = none (copy_on node b.copies) (and_parts (not (is_empty b.state)) (is_none (copy_on node b.copies)) e).1
    asked cause.Thaw n e = absurd (n refl)

    by :
        (empty asking moving : Bool) → is_empty b.state ≡ empty → asks c b node ≡ asking
        → (if empty then is_some_frame m (Some f) else if asking && moving then is_frame_on m node (Some f) else is_none (Some f)) ≡ true
        → (is_frame m f ≡ true) × (copy_on f.module b.copies ≡ None)
    by true asking moving e q r = (r, copy_on-empty m b f.module h e)
    by false true true e q r =
        let both = and_parts (is_frame m f) (f.module == node) r in
        (both.0, ap (λ x. copy_on x b.copies) (eqb-true f.module node both.1) ∙ asked c t q)
    by false true false e q r = absurd cc
    by false false moving e q r = absurd cc

-- it is a frame of the machine, on a module where the page has no copy
pub hand-apart :
    (m : Machine) (answer : Answer) (a : ℕ) (p : Private) (s : Session) (c : Course) (f : Frame) → IsActor m a → FaultOk m a p s.fault
    → CourseOk m answer a p s c → c.got ≡ Some f → (is_frame m f ≡ true) × (copy_on f.module s.dir.copies ≡ None)
hand-apart m answer a p s c f (inl l) h k e =
    let no_thaw = cause-fault m a p s h l in
    let may = and_parts (is_dir m s.dir) (fits_cause m answer s.dir c.stamp.last p.now a s.fault.cause c.got) k.may in
    let fits = sym (fits_cause-fault m answer s.dir c.stamp.last p.now a s.fault.cause c.got no_thaw) ∙ may.1 in
    got_fits m s.dir s.fault.cause (same_verdict (answer s.dir c.stamp.last p.now) verdict.Move) a f may.0
    (subst (λ x. fits_fault m s.dir (asks s.fault.cause s.dir a) (same_verdict (answer s.dir c.stamp.last p.now) verdict.Move) a x ≡ true)
    e fits) no_thaw
hand-apart m answer a p s c f (inr q) h k e =
    let none = (thaw_decides m answer a p s c h k q).1 in absurd cc

-- ---- what is removed

-- writes are removed from a modified page alone
pub removes-writes :
    (m : Machine) (answer : Answer) (a : ℕ) (p : Private) (s : Session) (c : Course) → IsActor m a → FaultOk m a p s.fault
    → CourseOk m answer a p s c → (decision_of m answer a p.now s c).removed ≡ removed.Writes → s.dir.state ≡ state.Modified
removes-writes m answer a p s c (inl l) h k e = (fault_decides m answer a p s c h k l).writes_before e
removes-writes m answer a p s c (inr q) h k e =
    let all = (thaw_decides m answer a p s c h k q).0.removed in absurd cc
