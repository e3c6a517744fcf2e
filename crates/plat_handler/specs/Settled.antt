-- the shootdown of a session
use Rattle.std.specs.Prelude.{◌≡◌, ℕ, ◌≤◌, ◌<◌, [], Option, Some, None, IsTrue}
use Rattle.plat_base.specs.Machine.{Machine}
use Rattle.plat_base.specs.declared.items.Removed.{Removed}
use Rattle.plat_shoot.specs.ShootSeen.{ShootSeen, ShootsOn, need_of, is_word_needed, own_after}
use Rattle.plat_shoot.specs.declared.needs.Own.{Own}
use Rattle.plat_shoot.specs.declared.needs.Own.TheVariants as own
use Rattle.plat_events.specs.Shootdowns.{Shoot}
use Rattle.plat_events.specs.Sessions.{with_shoot}
use Rattle.plat_handler.specs.Stages.{Stage, stage_shot}
use Rattle.plat_handler.specs.Courses.{still}
use Rattle.plat_handler.specs.Phases.{answer_of, decided, session_seen, course_seen, phase_seen, posts_in}
use Rattle.plat_handler.specs.Fits.{ShootFits}
use Rattle.plat_handler.specs.Decided.{Removes}
use Rattle.plat_handler.specs.declared.phases.Lock.{Lock}
use Rattle.plat_handler.specs.declared.phases.Course.{Course}
use Rattle.plat_handler.specs.declared.phases.Then.{Then}
use Rattle.plat_handler.specs.declared.phases.Then.TheVariants.{Runs, Shoots}

-- the session with its shootdown as it stands
abbrev pub stage_with : Machine → Lock → Course → Shoot → Stage
stage_with m lock c shoot =
    stage_shot (session_seen lock (with_shoot m (answer_of m) lock.actor lock.tick (still lock) (course_seen [] c) shoot)) shoot

-- it is of this session and course
pub record IsOf (m : Machine) (lock : Lock) (c : Course) (s : ShootSeen) : Type 0 where
  pub on : ShootsOn m s
  pub actor : s.actor ≡ lock.actor
  pub page : s.page ≡ lock.fault.page
  pub removed : s.removed ≡ (decided m lock c).removed

abbrev pub IsShootOf : Machine → Lock → Course → Option ShootSeen → Type 0
IsShootOf m lock c None = ⊥
IsShootOf m lock c (Some s) = IsOf m lock c s × IsTrue (is_word_needed (need_of m s))

abbrev pub own_of_shot : Machine → (n : ℕ) → Option ShootSeen → Own
own_of_shot m n None = own.Nothing
own_of_shot m n (Some s) = own_after m s n s.shoot

-- a shootdown may begin, of a page of the machine
pub record StartsOn (m : Machine) (lock : Lock) (c : Course) (r : Removed) : Type 0 where
  pub removes : Removes m lock c r
  pub actor : lock.actor ≤ m.nodes
  pub page : lock.fault.page < m.pages

abbrev pub EntersOn : Machine → Lock → Then → Type 0
EntersOn m lock (Runs p) = Unit {0}
EntersOn m lock (Shoots c removed) = StartsOn m lock c removed

-- there is no shootdown before the row is fixed
abbrev pub ThenShoots : Machine → Lock → Option ShootSeen → Then → Type 0
ThenShoots m lock seen (Runs p) =
    ShootFits m lock.actor lock.tick (session_seen lock (phase_seen (posts_in seen) p)) seen (phase_seen (posts_in seen) p)
ThenShoots m lock seen (Shoots c removed) = Unit {0}
