-- where a handler of the program stands, as the definitions see it
use Rattle.std.specs.Prelude.{◌≡◌, ℕ, List, [], Option, Some, None}
use Rattle.plat_base.specs.Machine.{Machine}
use Rattle.plat_base.specs.Verdicts.{Answer, policy_answer}
use Rattle.plat_base.specs.declared.policies.Decision.{Decision}
use Rattle.plat_words.specs.declared.stamp_words.StampWord.{StampWord}
use Rattle.plat_events.specs.Shootdowns.{Shoot, Makes, Polls, Done, Watching, shoot_from}
use Rattle.plat_events.specs.Sessions as events
use Rattle.plat_events.specs.Sessions.{Session, decision_of, with_shoot}
use Rattle.plat_shoot.specs.ShootSeen.{ShootSeen}
use Rattle.plat_handler.specs.Stages as stages
use Rattle.plat_handler.specs.declared.faults.Fault.{Fault}
use Rattle.plat_handler.specs.declared.phases.Lock.{Lock}
use Rattle.plat_handler.specs.declared.phases.Course.{Course}
use Rattle.plat_handler.specs.declared.phases.Phase.{Phase}
use Rattle.plat_handler.specs.declared.phases.Phase.TheVariants as phase
use Rattle.plat_handler.specs.declared.phases.Then.{Then}
use Rattle.plat_handler.specs.declared.phases.Then.TheVariants as then_
use Rattle.plat_handler.specs.declared.phases.Stage.{Stage}
use Rattle.plat_handler.specs.declared.phases.Stage.TheVariants as stage

-- the policy's answer is that of the machine's own policy
abbrev pub answer_of : Machine → Answer
answer_of m = policy_answer m.policy

abbrev pub fault_seen : Fault → events.Fault
fault_seen f = record { page = f.page; entry = f.entry; cause = f.cause }

abbrev pub stamp_seen : StampWord → events.Stamp
stamp_seen st = record { last = st.last; seq = st.seq }

-- posts are the masks that the shootdown found
abbrev pub course_seen : (posts : List ℕ) → Course → events.Course
course_seen posts c = record { stamp = stamp_seen c.stamp; got = c.got; posts = posts }

abbrev pub phase_seen : (posts : List ℕ) → Phase → events.Phase
phase_seen posts phase.Stamping = events.Stamping
phase_seen posts (phase.Seeking stamp passed) = events.Seeking (stamp_seen stamp) passed
phase_seen posts (phase.Taking stamp passed seen) = events.Taking (stamp_seen stamp) passed seen
phase_seen posts phase.Returning = events.Returning
phase_seen posts (phase.Filling c w) = events.Filling (course_seen posts c) w
phase_seen posts (phase.Reading c w) = events.Reading (course_seen posts c) w
phase_seen posts (phase.Copying c w seen) = events.Copying (course_seen posts c) w seen
phase_seen posts (phase.Giving c given) = events.Giving (course_seen posts c) given
phase_seen posts (phase.Storing c) = events.Storing (course_seen posts c)
phase_seen posts (phase.Granting c) = events.Granting (course_seen posts c)
phase_seen posts (phase.Unlocking c) = events.Unlocking (course_seen posts c)

abbrev pub session_seen : Lock → events.Phase → Session
session_seen lock p = record { fault = fault_seen lock.fault; dir = lock.dir; phase = p }

-- what is decided in a session does not depend on its phase
abbrev pub decided : Machine → Lock → Course → Decision
decided m lock c = decision_of m (answer_of m) lock.actor lock.tick (session_seen lock events.Returning) (course_seen [] c)

-- what follows an operation: a phase, or a shootdown
abbrev pub then_seen : Machine → Lock → (posts : List ℕ) → Then → events.Phase
then_seen m lock posts (then_.Runs p) = phase_seen posts p
then_seen m lock posts (then_.Shoots c removed) =
    with_shoot m (answer_of m) lock.actor lock.tick (session_seen lock events.Returning) (course_seen [] c)
    (shoot_from m lock.actor lock.fault.page [])

-- no mask was found before the row is fixed
abbrev pub PostsSuit : (posts : List ℕ) → Phase → Type 0
PostsSuit posts phase.Stamping = posts ≡ []
PostsSuit posts (phase.Seeking stamp passed) = posts ≡ []
PostsSuit posts (phase.Taking stamp passed seen) = posts ≡ []
PostsSuit posts phase.Returning = Unit {0}
PostsSuit posts (phase.Filling c w) = Unit {0}
PostsSuit posts (phase.Reading c w) = Unit {0}
PostsSuit posts (phase.Copying c w seen) = Unit {0}
PostsSuit posts (phase.Giving c given) = Unit {0}
PostsSuit posts (phase.Storing c) = Unit {0}
PostsSuit posts (phase.Granting c) = Unit {0}
PostsSuit posts (phase.Unlocking c) = Unit {0}

abbrev pub posts_by : Shoot → List ℕ
posts_by (Makes posts shot) = posts
posts_by (Polls posts k) = posts
posts_by (Done posts) = posts

abbrev pub posts_in : Option ShootSeen → List ℕ
posts_in None = []
posts_in (Some s) = posts_by s.shoot

-- a session with its shootdown as it stands; one that is over has left it
abbrev pub shooting_by : Lock → Course → Shoot → stages.Stage
shooting_by lock c (Makes posts shot) = stages.Runs (session_seen lock (events.Shooting (course_seen posts c) shot))
shooting_by lock c (Polls posts k) = stages.Rewaits (session_seen lock (events.Shooting (course_seen posts c) (Watching k)))
shooting_by lock c (Done posts) = stages.Locks (fault_seen lock.fault)

abbrev pub shooting_seen : Lock → Course → Option ShootSeen → stages.Stage
shooting_seen lock c None = stages.Locks (fault_seen lock.fault)
shooting_seen lock c (Some s) = shooting_by lock c s.shoot

abbrev pub stage_seen : Lock → Option ShootSeen → Stage → stages.Stage
stage_seen lock shoot stage.Locking = stages.Locks (fault_seen lock.fault)
stage_seen lock shoot stage.Relocking = stages.Relocks (fault_seen lock.fault)
stage_seen lock shoot (stage.Running p) = stages.Runs (session_seen lock (phase_seen (posts_in shoot) p))
stage_seen lock shoot (stage.Shooting c) = shooting_seen lock c shoot
stage_seen lock shoot stage.Returned = stages.Returned (session_seen lock events.Returning)
stage_seen lock shoot (stage.Changed c) =
    stages.Changed (session_seen lock (events.Unlocking (course_seen (posts_in shoot) c))) (course_seen (posts_in shoot) c)

-- ---- a session in its shootdown has one that is not over

abbrev pub GoesOn : Shoot → Type 0
GoesOn (Makes posts shot) = Unit {0}
GoesOn (Polls posts k) = Unit {0}
GoesOn (Done posts) = ⊥

abbrev pub IsUnderWay : Option ShootSeen → Type 0
IsUnderWay None = ⊥
IsUnderWay (Some s) = GoesOn s.shoot

abbrev pub ShootsWell : Option ShootSeen → Stage → Type 0
ShootsWell shoot stage.Locking = Unit {0}
ShootsWell shoot stage.Relocking = Unit {0}
ShootsWell shoot (stage.Running p) = Unit {0}
ShootsWell shoot (stage.Shooting c) = IsUnderWay shoot
ShootsWell shoot stage.Returned = Unit {0}
ShootsWell shoot (stage.Changed c) = Unit {0}
