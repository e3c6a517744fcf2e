-- where a session stands in the program and in the definition, and its shootdown
use Rattle.std.proofs.Common.{◌≡◌, ℕ, ◌+◌, Bool, true, false, if◌then◌else◌, List, [], length, Option, Some, None, ap}
use Rattle.std.specs.Prelude.{IsTrue, nat_lt, ◌==◌}
use Rattle.plat_base.specs.Machine.{Machine}
use Rattle.plat_base.specs.Decide.{is_empty}
use Rattle.plat_base.specs.Messages.{removes_some}
use Rattle.plat_base.specs.declared.items.Action.{Action}
use Rattle.plat_base.specs.declared.items.Action.TheVariants as action
use Rattle.plat_events.specs.Words.{last_read, seq_read}
use Rattle.plat_events.specs.Shootdowns.{Shoot, Makes, Polls, Done, shoot_from, shot_after}
use Rattle.plat_events.specs.Sessions.{Stamp, Course, Phase, Stamping, Seeking, Taking, Returning, Shooting, Filling, Reading, Copying}
use Rattle.plat_events.specs.Sessions.{Giving, Storing, Granting, Unlocking, Session, decision_of, tried, going, give_from, fill_from}
use Rattle.plat_events.specs.Sessions.{copy_from, shot_over, with_posts, with_shoot, start_course, with_frame_got, seek_from, pool_found}
use Rattle.plat_events.specs.Sessions.{frame_taken, phase_after}
use Rattle.plat_shoot.specs.ShootSeen.{ShootSeen}
use Rattle.plat_handler.specs.Phases.{answer_of, fault_seen, session_seen, course_seen, phase_seen, posts_in, PostsSuit}
use Rattle.plat_handler.specs.Fits.{SessionFits, CourseFits, PhaseFits, ShootFits, may_begin}
use Rattle.plat_handler.specs.Decided.{Begins, Decides}
use Rattle.plat_handler.specs.declared.phases.Lock.{Lock}
use Rattle.plat_handler.specs.declared.phases.Course.{Course as RustCourse}
use Rattle.plat_handler.specs.declared.phases.Phase.{Phase as RustPhase}
use Rattle.plat_handler.specs.declared.phases.Phase.TheVariants as phase
use Rattle.plat_handler.proofs.FaultLemmas.{fault-actor}

-- ---- no shootdown before the row is fixed

abbrev pub EarlyNone : Option ShootSeen → Phase → Type 0
EarlyNone seen Stamping = seen ≡ None
EarlyNone seen (Seeking st i) = seen ≡ None
EarlyNone seen (Taking st i pool) = seen ≡ None
EarlyNone seen Returning = Unit {0}
EarlyNone seen (Shooting c shot) = Unit {0}
EarlyNone seen (Filling c w) = Unit {0}
EarlyNone seen (Reading c w) = Unit {0}
EarlyNone seen (Copying c w word) = Unit {0}
EarlyNone seen (Giving c k) = Unit {0}
EarlyNone seen (Storing c) = Unit {0}
EarlyNone seen (Granting c) = Unit {0}
EarlyNone seen (Unlocking c) = Unit {0}

module _ (m : Machine) (a now : ℕ) (s : Session) (seen : Option ShootSeen) where
  either : (b : Bool) (x y : Phase) → EarlyNone seen x → EarlyNone seen y → EarlyNone seen (if b then x else y)
  either true x y f g = f
  either false x y f g = g

  late-give : (c : Course) (k : ℕ) → EarlyNone seen (give_from m (answer_of m) a now s c k)
  late-give c k = either (nat_lt k (length (going s.dir (decision_of m (answer_of m) a now s c)))) (Giving c k) (Storing c) tt tt

  late-fill : (c : Course) (w : ℕ) → EarlyNone seen (fill_from m (answer_of m) a now s c w)
  late-fill c w = either (nat_lt w m.words) (Filling c w) (give_from m (answer_of m) a now s c 0) tt (late-give c 0)

  late-copy : (c : Course) (w : ℕ) → EarlyNone seen (copy_from m (answer_of m) a now s c w)
  late-copy c w = either (nat_lt w m.words) (Reading c w) (give_from m (answer_of m) a now s c 0) tt (late-give c 0)

  pub late-over : (c : Course) (x : Action) → EarlyNone seen (shot_over m (answer_of m) a now s c x)
  late-over c action.Fill = late-fill c 0
  late-over c action.MapLocal = late-give c 0
  late-over c action.MapRemote = late-give c 0
  late-over c action.Replicate = late-copy c 0
  late-over c action.Migrate = late-copy c 0
  late-over c action.Collapse = late-give c 0
  late-over c action.Thaw = late-give c 0

  late-shoot : (c : Course) (shoot : Shoot) → EarlyNone seen (with_shoot m (answer_of m) a now s c shoot)
  late-shoot c (Makes posts shot) = tt
  late-shoot c (Polls posts k) = tt
  late-shoot c (Done posts) = late-over (with_posts c posts) (decision_of m (answer_of m) a now s c).action

  late-start : (c : Course) → EarlyNone seen (start_course m (answer_of m) a now s c)
  late-start c =
      either (removes_some (decision_of m (answer_of m) a now s c).removed)
      (with_shoot m (answer_of m) a now s c (shoot_from m a s.fault.page []))
      (shot_over m (answer_of m) a now s c (decision_of m (answer_of m) a now s c).action)
      (late-shoot c (shoot_from m a s.fault.page [])) (late-over c (decision_of m (answer_of m) a now s c).action)

  early-seek : (st : Stamp) (i : ℕ) → seen ≡ None → EarlyNone seen (seek_from m (answer_of m) a now s st i)
  early-seek st i h =
      either (nat_lt i (length (tried m (answer_of m) a now s st))) (Seeking st i)
      (if is_empty s.dir.state then Returning else with_frame_got m (answer_of m) a now s st None) h
      (either (is_empty s.dir.state) Returning (with_frame_got m (answer_of m) a now s st None) tt
      (late-start (record { stamp = st; got = None; posts = [] })))

  early-pool : (st : Stamp) (i n : ℕ) → seen ≡ None → EarlyNone seen (pool_found m (answer_of m) a now s st i n)
  early-pool st i n h = either (n == 0) (seek_from m (answer_of m) a now s st (i + 1)) (Taking st i n) (early-seek st (i + 1) h) h

  pub early-after : (n : ℕ) (p : Phase) → EarlyNone seen p → EarlyNone seen (phase_after m (answer_of m) a now s n p)
  early-after n Stamping h = early-seek (record { last = last_read n; seq = seq_read n }) 0 h
  early-after n (Seeking st i) h = early-pool st i n h
  early-after n (Taking st i pool) h =
      either (n == pool) (with_frame_got m (answer_of m) a now s st (Some (frame_taken m (answer_of m) a now s st i pool)))
      (pool_found m (answer_of m) a now s st i n)
      (late-start (record { stamp = st; got = Some (frame_taken m (answer_of m) a now s st i pool); posts = [] })) (early-pool st i n h)
  early-after n Returning h = tt
  early-after n (Shooting c shot) h = late-shoot c (shot_after m a s.fault.page c.posts n shot)
  early-after n (Filling c w) h = late-fill c (w + 1)
  early-after n (Reading c w) h = tt
  early-after n (Copying c w word) h = late-copy c (w + 1)
  early-after n (Giving c k) h = late-give c (k + 1)
  early-after n (Storing c) h = either (a == m.nodes) (Unlocking c) (Granting c) tt tt
  early-after n (Granting c) h = tt
  early-after n (Unlocking c) h = tt

-- ---- the phases of the program have no shootdown of their own

module _ (m : Machine) (lock : Lock) (posts : List ℕ) (seen : Option ShootSeen) where
  abbrev in_phase : RustPhase → Session
  in_phase p = session_seen lock (phase_seen posts p)

  pub shoot_fits-early : (s : Session) (p : RustPhase) → EarlyNone seen (phase_seen posts p) →
      ShootFits m lock.actor lock.tick s seen (phase_seen posts p)
  shoot_fits-early s phase.Stamping h = h
  shoot_fits-early s (phase.Seeking stamp passed) h = h
  shoot_fits-early s (phase.Taking stamp passed pool) h = h
  shoot_fits-early s phase.Returning h = tt
  shoot_fits-early s (phase.Filling c w) h = tt
  shoot_fits-early s (phase.Reading c w) h = tt
  shoot_fits-early s (phase.Copying c w word) h = tt
  shoot_fits-early s (phase.Giving c given) h = tt
  shoot_fits-early s (phase.Storing c) h = tt
  shoot_fits-early s (phase.Granting c) h = tt
  shoot_fits-early s (phase.Unlocking c) h = tt

  pub early-shoot_fits : (s : Session) (p : RustPhase) → ShootFits m lock.actor lock.tick s seen (phase_seen posts p) →
      EarlyNone seen (phase_seen posts p)
  early-shoot_fits s phase.Stamping h = h
  early-shoot_fits s (phase.Seeking stamp passed) h = h
  early-shoot_fits s (phase.Taking stamp passed pool) h = h
  early-shoot_fits s phase.Returning h = tt
  early-shoot_fits s (phase.Filling c w) h = tt
  early-shoot_fits s (phase.Reading c w) h = tt
  early-shoot_fits s (phase.Copying c w word) h = tt
  early-shoot_fits s (phase.Giving c given) h = tt
  early-shoot_fits s (phase.Storing c) h = tt
  early-shoot_fits s (phase.Granting c) h = tt
  early-shoot_fits s (phase.Unlocking c) h = tt

pub posts_suit-early : (seen : Option ShootSeen) (posts : List ℕ) (p : RustPhase) → EarlyNone seen (phase_seen posts p) →
    PostsSuit (posts_in seen) p
posts_suit-early seen posts phase.Stamping h = ap posts_in h
posts_suit-early seen posts (phase.Seeking stamp passed) h = ap posts_in h
posts_suit-early seen posts (phase.Taking stamp passed pool) h = ap posts_in h
posts_suit-early seen posts phase.Returning h = tt
posts_suit-early seen posts (phase.Filling c w) h = tt
posts_suit-early seen posts (phase.Reading c w) h = tt
posts_suit-early seen posts (phase.Copying c w word) h = tt
posts_suit-early seen posts (phase.Giving c given) h = tt
posts_suit-early seen posts (phase.Storing c) h = tt
posts_suit-early seen posts (phase.Granting c) h = tt
posts_suit-early seen posts (phase.Unlocking c) h = tt

-- ---- what a session of the machine tells its calls, whatever masks were found

pub runs_on-posts :
    (m : Machine) (lock : Lock) (posts : List ℕ) (p : RustPhase) →
    PhaseFits m lock.actor lock.tick (session_seen lock Returning) (phase_seen posts p) →
    PhaseFits m lock.actor lock.tick (session_seen lock Returning) (phase_seen [] p)
runs_on-posts m lock posts phase.Stamping h = h
runs_on-posts m lock posts (phase.Seeking stamp passed) h = h
runs_on-posts m lock posts (phase.Taking stamp passed pool) h = h
runs_on-posts m lock posts phase.Returning h = h
runs_on-posts m lock posts (phase.Filling c w) h = h
runs_on-posts m lock posts (phase.Reading c w) h = h
runs_on-posts m lock posts (phase.Copying c w word) h = h
runs_on-posts m lock posts (phase.Giving c given) h = h
runs_on-posts m lock posts (phase.Storing c) h = h
runs_on-posts m lock posts (phase.Granting c) h = h
runs_on-posts m lock posts (phase.Unlocking c) h = h

pub decides_of :
    (m : Machine) (lock : Lock) (posts : List ℕ) (c : RustCourse) → SessionFits m lock.actor (fault_seen lock.fault) lock.dir →
    CourseFits m lock.actor lock.tick (session_seen lock Returning) (course_seen posts c) → Decides m lock c
decides_of m lock posts c s h = record { dir = s.dir; node = fault-actor m lock.actor (fault_seen lock.fault) s.fault; fits = h.0 }

pub begins_of :
    (m : Machine) (lock : Lock) → SessionFits m lock.actor (fault_seen lock.fault) lock.dir →
    IsTrue (may_begin lock.fault.cause lock.dir) → Begins m lock
begins_of m lock s h = record { dir = s.dir; node = fault-actor m lock.actor (fault_seen lock.fault) s.fault; begins = h }
