-- when a handler is one of a machine: what it is for, and where it stands
use Rattle.std.specs.Prelude.{◌≡◌, ℕ, ◌^◌, ◌<◌, ◌≤◌, ◌==◌, nat_lt, ◌&&◌, Bool, true, false, List, length, Option, Some, None, is_none}
use Rattle.std.specs.Prelude.{IsTrue}
use Rattle.plat_base.specs.Machine.{Machine}
use Rattle.plat_base.specs.Pages.{page_of}
use Rattle.plat_base.specs.Decide.{is_dir, is_empty, fits_cause}
use Rattle.plat_base.specs.declared.frames.Dir.{Dir}
use Rattle.plat_base.specs.declared.items.Cause.{Cause}
use Rattle.plat_base.specs.declared.items.Cause.TheVariants as cause
use Rattle.plat_events.specs.Places.{most_changes}
use Rattle.plat_events.specs.Shootdowns.{Shot, Posting, PostingOn, Asking, Interrupting, Watching, AskingAgain, Shoot, Makes, Polls, Done}
use Rattle.plat_events.specs.Sessions.{Fault, Stamp, Course, Phase, Stamping, Seeking, Taking, Returning, Shooting, Filling, Reading}
use Rattle.plat_events.specs.Sessions.{Copying, Giving, Storing, Granting, Unlocking, Session, decision_of, tried, going}
use Rattle.plat_shoot.specs.ShootSeen.{ShootSeen, ShootsOn}
use Rattle.plat_handler.specs.Stages.{Stage, Locks, Relocks, Runs, Rewaits, Returned, Changed}
use Rattle.plat_handler.specs.Phases.{answer_of}

-- ---- what a page is locked for

abbrev pub is_entry_for : Machine → (a page : ℕ) → Option ℕ → Bool
is_entry_for m a page None = false
is_entry_for m a page (Some e) = nat_lt a m.nodes && nat_lt e (length m.entries) && page_of m e == page

abbrev pub is_caused : Machine → (a page : ℕ) → Option ℕ → Cause → Bool
is_caused m a page entry cause.Read = is_entry_for m a page entry
is_caused m a page entry cause.Write = is_entry_for m a page entry
is_caused m a page entry cause.Thaw = a == m.nodes && is_none entry

-- a page of the machine; a processor faults through an entry of it, and the daemon thaws
abbrev pub is_fault : Machine → (a : ℕ) → Fault → Bool
is_fault m a fault = nat_lt fault.page m.pages && is_caused m a fault.page fault.entry fault.cause

-- the fault and the directory are of the machine
pub record SessionFits (m : Machine) (a : ℕ) (f : Fault) (d : Dir) : Type 0 where
  pub fault : IsTrue (is_fault m a f)
  pub dir : IsTrue (is_dir m d)

-- ---- what is decided

-- a thaw is of a frozen page
abbrev pub may_begin : Cause → Dir → Bool
may_begin cause.Read dir = true
may_begin cause.Write dir = true
may_begin cause.Thaw dir = dir.frozen

-- the frame that was taken is one that the row can use, and the page has not changed too often
abbrev pub CourseFits : Machine → (a now : ℕ) → Session → Course → Type 0
CourseFits m a now s c =
    IsTrue (fits_cause m (answer_of m) s.dir c.stamp.last now a s.fault.cause c.got) × (c.stamp.seq ≤ most_changes)

-- a module is left on which a frame is sought
abbrev pub SeekFits : Machine → (a now : ℕ) → Session → Stamp → (i : ℕ) → Type 0
SeekFits m a now s st i =
    IsTrue (may_begin s.fault.cause s.dir) × (i < length (tried m (answer_of m) a now s st)) × (st.seq ≤ most_changes)

-- ---- where a session stands, its shootdown aside

abbrev pub PhaseFits : Machine → (a now : ℕ) → Session → Phase → Type 0
PhaseFits m a now s Stamping = IsTrue (may_begin s.fault.cause s.dir)
PhaseFits m a now s (Seeking st i) = SeekFits m a now s st i
PhaseFits m a now s (Taking st i seen) = SeekFits m a now s st i × (0 < seen) × (seen < 2 ^ m.frames)
PhaseFits m a now s Returning = Unit {0}
PhaseFits m a now s (Shooting c shot) = CourseFits m a now s c
PhaseFits m a now s (Filling c w) = CourseFits m a now s c × (w < m.words)
PhaseFits m a now s (Reading c w) = CourseFits m a now s c × (w < m.words) × (is_empty s.dir.state ≡ false) × (a < m.nodes)
PhaseFits m a now s (Copying c w seen) = CourseFits m a now s c × (w < m.words) × (is_empty s.dir.state ≡ false) × (a < m.nodes)
PhaseFits m a now s (Giving c k) = CourseFits m a now s c × (k < length (going s.dir (decision_of m (answer_of m) a now s c)))
PhaseFits m a now s (Storing c) = CourseFits m a now s c
PhaseFits m a now s (Granting c) = CourseFits m a now s c × (a < m.nodes)
PhaseFits m a now s (Unlocking c) = CourseFits m a now s c

-- ---- its shootdown

abbrev pub shoot_running : Machine → (a now : ℕ) → Session → Course → Shoot → ShootSeen
shoot_running m a now s c shoot = record {
  actor = a;
  page = s.fault.page;
  removed = (decision_of m (answer_of m) a now s c).removed;
  shoot = shoot;
}

-- a shootdown of this course
pub record ShootingFits (m : Machine) (a now : ℕ) (s : Session) (c : Course) (shoot : Shoot) (seen : Option ShootSeen) : Type 0 where
  pub on : ShootsOn m (shoot_running m a now s c shoot)
  pub is : seen ≡ Some (shoot_running m a now s c shoot)

-- there is none before the row is fixed
abbrev pub ShootFits : Machine → (a now : ℕ) → Session → Option ShootSeen → Phase → Type 0
ShootFits m a now s seen Stamping = seen ≡ None
ShootFits m a now s seen (Seeking st i) = seen ≡ None
ShootFits m a now s seen (Taking st i pool) = seen ≡ None
ShootFits m a now s seen Returning = Unit {0}
ShootFits m a now s seen (Shooting c shot) = ShootingFits m a now s c (Makes c.posts shot) seen
ShootFits m a now s seen (Filling c w) = Unit {0}
ShootFits m a now s seen (Reading c w) = Unit {0}
ShootFits m a now s seen (Copying c w word) = Unit {0}
ShootFits m a now s seen (Giving c k) = Unit {0}
ShootFits m a now s seen (Storing c) = Unit {0}
ShootFits m a now s seen (Granting c) = Unit {0}
ShootFits m a now s seen (Unlocking c) = Unit {0}

-- one that waits for a poll watches its target again
abbrev pub waiting : (posts : List ℕ) → Shot → Shoot
waiting posts Posting = Done posts
waiting posts (PostingOn seen) = Done posts
waiting posts (Asking k) = Done posts
waiting posts (Interrupting k) = Done posts
waiting posts (Watching k) = Polls posts k
waiting posts (AskingAgain k) = Done posts

abbrev pub WaitFits : Machine → (a now : ℕ) → Session → Option ShootSeen → Phase → Type 0
WaitFits m a now s seen Stamping = ⊥
WaitFits m a now s seen (Seeking st i) = ⊥
WaitFits m a now s seen (Taking st i pool) = ⊥
WaitFits m a now s seen Returning = ⊥
WaitFits m a now s seen (Shooting c shot) = ShootingFits m a now s c (waiting c.posts shot) seen
WaitFits m a now s seen (Filling c w) = ⊥
WaitFits m a now s seen (Reading c w) = ⊥
WaitFits m a now s seen (Copying c w word) = ⊥
WaitFits m a now s seen (Giving c k) = ⊥
WaitFits m a now s seen (Storing c) = ⊥
WaitFits m a now s seen (Granting c) = ⊥
WaitFits m a now s seen (Unlocking c) = ⊥

-- ---- where a handler stands, its shootdown aside, and its shootdown

abbrev pub StageFits : Machine → (a now : ℕ) → Stage → Type 0
StageFits m a now (Locks fault) = IsTrue (is_fault m a fault)
StageFits m a now (Relocks fault) = IsTrue (is_fault m a fault)
StageFits m a now (Runs s) = SessionFits m a s.fault s.dir × PhaseFits m a now s s.phase
StageFits m a now (Rewaits s) = SessionFits m a s.fault s.dir × PhaseFits m a now s s.phase
StageFits m a now (Returned s) = SessionFits m a s.fault s.dir
StageFits m a now (Changed s c) = SessionFits m a s.fault s.dir × CourseFits m a now s c

abbrev pub StageShoots : Machine → (a now : ℕ) → Option ShootSeen → Stage → Type 0
StageShoots m a now seen (Locks fault) = seen ≡ None
StageShoots m a now seen (Relocks fault) = seen ≡ None
StageShoots m a now seen (Runs s) = ShootFits m a now s seen s.phase
StageShoots m a now seen (Rewaits s) = WaitFits m a now s seen s.phase
StageShoots m a now seen (Returned s) = Unit {0}
StageShoots m a now seen (Changed s c) = Unit {0}
