-- where a handler stands: before the lock, in the session, or behind the unlock; and what each operation leads to
use Rattle.std.specs.Prelude.{ℕ, ◌^◌, ◌==◌, ◌&&◌, not, if◌then◌else◌, Option, Some, None}
use Rattle.plat_base.specs.Machine.{Machine}
use Rattle.plat_base.specs.Verdicts.{Answer}
use Rattle.plat_base.specs.declared.items.Translation.{Translation}
use Rattle.plat_base.specs.declared.words.Op.{Op}
use Rattle.plat_base.specs.declared.words.Op.TheVariants as op
use Rattle.plat_base.specs.declared.words.WordName.{WordName}
use Rattle.plat_base.specs.declared.words.WordName.TheVariants as word
use Rattle.plat_events.specs.Words.{lock_place, is_locked, dir_read}
use Rattle.plat_events.specs.Events.{is_followed}
use Rattle.plat_events.specs.Shootdowns.{Shoot, Makes, Polls, Done, shot_after, own_post}
use Rattle.plat_events.specs.Sessions.{Fault, Course, Phase, Stamping, Seeking, Taking, Returning, Shooting, Filling, Reading, Copying}
use Rattle.plat_events.specs.Sessions.{Giving, Storing, Granting, Unlocking, Session, session_next, phase_after, with_phase}
use Rattle.plat_events.specs.Sessions.{translation_made}
use Rattle.plat_events.specs.Privates.{Place, Polling, Relock, Rewait, Locking, InSession}

pub data Stage : Type 0 where
  Locks : (fault : Fault) → Stage  -- the lock is next
  Relocks : (fault : Fault) → Stage  -- a poll, and then the lock again
  Runs : (session : Session) → Stage  -- an operation of the session is next
  Rewaits : (session : Session) → Stage  -- a poll, and then the session again
  Returned : (session : Session) → Stage  -- the page was unlocked as it was
  Changed : (session : Session) (course : Course) → Stage  -- the page was unlocked with its change

-- the place of the actor within its events, unless the handler is done
abbrev pub place_in : Stage → Option Place
place_in (Locks fault) = Some (Locking fault)
place_in (Relocks fault) = Some (Polling (Relock fault))
place_in (Runs session) = Some (InSession session)
place_in (Rewaits session) = Some (Polling (Rewait session))
place_in (Returned session) = None
place_in (Changed session course) = None

-- ---- the operation

abbrev pub stage_next : Machine → Answer → (a now : ℕ) → Stage → Option (WordName × Op)
stage_next m answer a now (Locks fault) = Some (word.Dir fault.page, op.Or (2 ^ lock_place))
stage_next m answer a now (Relocks fault) = None
stage_next m answer a now (Runs s) = Some (session_next m answer a now s s.phase)
stage_next m answer a now (Rewaits s) = None
stage_next m answer a now (Returned s) = None
stage_next m answer a now (Changed s c) = None

-- ---- what follows it

-- the session that begins where the lock found n
abbrev pub session_begun : Machine → (a : ℕ) → Fault → ℕ → Session
session_begun m a fault n = record {
  fault = fault;
  dir = dir_read n;
  phase = if a == m.nodes && not (dir_read n).frozen then Returning else Stamping;
}

-- the lock found n: a set bit sends a processor to poll, and the daemon to lock again
abbrev pub stage_locked : Machine → (a : ℕ) → Fault → ℕ → Stage
stage_locked m a fault n =
    if is_locked n then (if a == m.nodes then Locks fault else Relocks fault) else Runs (session_begun m a fault n)

abbrev pub session_after : Machine → Answer → (a now n : ℕ) → Session → Session
session_after m answer a now n s = with_phase s (phase_after m answer a now s n s.phase)

-- a shootdown that waits polls first
abbrev pub stage_shot : Session → Shoot → Stage
stage_shot s (Makes posts shot) = Runs s
stage_shot s (Polls posts k) = Rewaits s
stage_shot s (Done posts) = Runs s

abbrev pub stage_run : Machine → Answer → (a now n : ℕ) → Session → Phase → Stage
stage_run m answer a now n s Stamping = Runs (session_after m answer a now n s)
stage_run m answer a now n s (Seeking st i) = Runs (session_after m answer a now n s)
stage_run m answer a now n s (Taking st i seen) = Runs (session_after m answer a now n s)
stage_run m answer a now n s Returning = Returned s
stage_run m answer a now n s (Shooting c shot) =
    stage_shot (session_after m answer a now n s) (shot_after m a s.fault.page c.posts n shot)
stage_run m answer a now n s (Filling c w) = Runs (session_after m answer a now n s)
stage_run m answer a now n s (Reading c w) = Runs (session_after m answer a now n s)
stage_run m answer a now n s (Copying c w seen) = Runs (session_after m answer a now n s)
stage_run m answer a now n s (Giving c k) = Runs (session_after m answer a now n s)
stage_run m answer a now n s (Storing c) = Runs (session_after m answer a now n s)
stage_run m answer a now n s (Granting c) = Runs (session_after m answer a now n s)
stage_run m answer a now n s (Unlocking c) = Changed s c

abbrev pub stage_moved : Machine → Answer → (a now n : ℕ) → Stage → Stage
stage_moved m answer a now n (Locks fault) = stage_locked m a fault n
stage_moved m answer a now n (Relocks fault) = Relocks fault
stage_moved m answer a now n (Runs s) = stage_run m answer a now n s s.phase
stage_moved m answer a now n (Rewaits s) = Rewaits s
stage_moved m answer a now n (Returned s) = Returned s
stage_moved m answer a now n (Changed s c) = Changed s c

-- the operation told n; a number that the word cannot be changes nothing
abbrev pub stage_after : Machine → Answer → (a now n : ℕ) → Stage → Stage
stage_after m answer a now n stage =
    if is_followed m (stage_next m answer a now stage) n then stage_moved m answer a now n stage else stage

-- a poll and its scan are over
abbrev pub stage_polled : Stage → Stage
stage_polled (Locks fault) = Locks fault
stage_polled (Relocks fault) = Locks fault
stage_polled (Runs s) = Runs s
stage_polled (Rewaits s) = Runs s
stage_polled (Returned s) = Returned s
stage_polled (Changed s c) = Changed s c

-- ---- what it does to the actor's own translations

-- the entry of a post that was made on a mask with the actor's own reference
abbrev pub posted_own : Machine → (a n : ℕ) → Session → Phase → Option ℕ
posted_own m a n s Stamping = None
posted_own m a n s (Seeking st i) = None
posted_own m a n s (Taking st i seen) = None
posted_own m a n s Returning = None
posted_own m a n s (Shooting c shot) = own_post m a s.fault.page c.posts n shot
posted_own m a n s (Filling c w) = None
posted_own m a n s (Reading c w) = None
posted_own m a n s (Copying c w seen) = None
posted_own m a n s (Giving c k) = None
posted_own m a n s (Storing c) = None
posted_own m a n s (Granting c) = None
posted_own m a n s (Unlocking c) = None

abbrev pub own_moved : Machine → (a n : ℕ) → Stage → Option ℕ
own_moved m a n (Locks fault) = None
own_moved m a n (Relocks fault) = None
own_moved m a n (Runs s) = posted_own m a n s s.phase
own_moved m a n (Rewaits s) = None
own_moved m a n (Returned s) = None
own_moved m a n (Changed s c) = None

abbrev pub own_told : Machine → Answer → (a now n : ℕ) → Stage → Option ℕ
own_told m answer a now n stage = if is_followed m (stage_next m answer a now stage) n then own_moved m a n stage else None

-- the translation that the session granted, from the grant on
abbrev pub granted_by : Machine → Answer → (a now : ℕ) → Session → Course → Option ℕ → Option Translation
granted_by m answer a now s c None = None
granted_by m answer a now s c (Some e) = Some (translation_made m answer a now s c e)

abbrev pub installed_in : Machine → Answer → (a now : ℕ) → Session → Phase → Option Translation
installed_in m answer a now s Stamping = None
installed_in m answer a now s (Seeking st i) = None
installed_in m answer a now s (Taking st i seen) = None
installed_in m answer a now s Returning = None
installed_in m answer a now s (Shooting c shot) = None
installed_in m answer a now s (Filling c w) = None
installed_in m answer a now s (Reading c w) = None
installed_in m answer a now s (Copying c w seen) = None
installed_in m answer a now s (Giving c k) = None
installed_in m answer a now s (Storing c) = None
installed_in m answer a now s (Granting c) = None
installed_in m answer a now s (Unlocking c) = granted_by m answer a now s c s.fault.entry

abbrev pub installed_by : Machine → Answer → (a now : ℕ) → Stage → Option Translation
installed_by m answer a now (Locks fault) = None
installed_by m answer a now (Relocks fault) = None
installed_by m answer a now (Runs s) = installed_in m answer a now s s.phase
installed_by m answer a now (Rewaits s) = None
installed_by m answer a now (Returned s) = None
installed_by m answer a now (Changed s c) = granted_by m answer a now s c s.fault.entry
