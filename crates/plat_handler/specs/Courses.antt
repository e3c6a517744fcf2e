-- the definition's phases of a locked page, for what stays the same from its lock to its unlock
use Rattle.std.specs.Prelude.{ℕ, nat_lt, Bool, List, [], Option, Some}
use Rattle.plat_base.specs.Machine.{Machine}
use Rattle.plat_base.specs.Pages.{distance}
use Rattle.plat_base.specs.declared.items.Change.{Change}
use Rattle.plat_base.specs.declared.items.Translation.{Translation}
use Rattle.plat_base.specs.declared.words.Op.{Op}
use Rattle.plat_base.specs.declared.words.WordName.{WordName}
use Rattle.plat_words.specs.declared.stamp_words.StampWord.{StampWord}
use Rattle.plat_events.specs.Sessions as events
use Rattle.plat_events.specs.Sessions.{Session, Returning, give_from, fill_from, copy_from, shot_over, start_course, seek_from, pool_found}
use Rattle.plat_events.specs.Sessions.{with_frame_got, frame_taken, module_tried, tried, phase_after, session_next, change_made}
use Rattle.plat_events.specs.Sessions.{translation_made}
use Rattle.plat_shoot.specs.ShootSeen.{ShootSeen}
use Rattle.plat_handler.specs.Stages.{Stage, stage_after}
use Rattle.plat_handler.specs.Phases.{answer_of, session_seen, stamp_seen, course_seen, phase_seen, decided}
use Rattle.plat_handler.specs.Fits.{StageShoots}
use Rattle.plat_handler.specs.declared.phases.Lock.{Lock}
use Rattle.plat_handler.specs.declared.phases.Course.{Course}
use Rattle.plat_handler.specs.declared.phases.Phase.{Phase}

-- what is decided in a session does not depend on its phase
abbrev pub still : Lock → Session
still lock = session_seen lock Returning

-- ---- what follows

abbrev pub gives : Machine → Lock → (posts : List ℕ) → Course → ℕ → events.Phase
gives m lock posts c k = give_from m (answer_of m) lock.actor lock.tick (still lock) (course_seen posts c) k

abbrev pub fills : Machine → Lock → (posts : List ℕ) → Course → ℕ → events.Phase
fills m lock posts c w = fill_from m (answer_of m) lock.actor lock.tick (still lock) (course_seen posts c) w

abbrev pub copies : Machine → Lock → (posts : List ℕ) → Course → ℕ → events.Phase
copies m lock posts c w = copy_from m (answer_of m) lock.actor lock.tick (still lock) (course_seen posts c) w

abbrev pub follows_shot : Machine → Lock → (posts : List ℕ) → Course → events.Phase
follows_shot m lock posts c =
    shot_over m (answer_of m) lock.actor lock.tick (still lock) (course_seen posts c) (decided m lock c).action

abbrev pub starts : Machine → Lock → Course → events.Phase
starts m lock c = start_course m (answer_of m) lock.actor lock.tick (still lock) (course_seen [] c)

abbrev pub seeks : Machine → Lock → StampWord → ℕ → events.Phase
seeks m lock stamp i = seek_from m (answer_of m) lock.actor lock.tick (still lock) (stamp_seen stamp) i

abbrev pub finds : Machine → Lock → StampWord → (i n : ℕ) → events.Phase
finds m lock stamp i n = pool_found m (answer_of m) lock.actor lock.tick (still lock) (stamp_seen stamp) i n

abbrev pub takes : Machine → Lock → StampWord → (i seen : ℕ) → events.Phase
takes m lock stamp i seen =
    with_frame_got m (answer_of m) lock.actor lock.tick (still lock) (stamp_seen stamp)
    (Some (frame_taken m (answer_of m) lock.actor lock.tick (still lock) (stamp_seen stamp) i seen))

abbrev pub goes_on : Machine → Lock → (n : ℕ) → events.Phase → events.Phase
goes_on m lock n p = phase_after m (answer_of m) lock.actor lock.tick (still lock) n p

-- ---- modules, operations and changes

-- a module is nearer to the node than another
abbrev pub is_nearer : Machine → (node mo other : ℕ) → Bool
is_nearer m node mo other = nat_lt (distance m node mo) (distance m node other)

abbrev pub modules_tried : Machine → Lock → StampWord → List ℕ
modules_tried m lock stamp = tried m (answer_of m) lock.actor lock.tick (still lock) (stamp_seen stamp)

abbrev pub tried_at : Machine → Lock → StampWord → ℕ → ℕ
tried_at m lock stamp i = module_tried m (answer_of m) lock.actor lock.tick (still lock) (stamp_seen stamp) i

abbrev pub operation_of : Machine → Lock → Phase → WordName × Op
operation_of m lock p = session_next m (answer_of m) lock.actor lock.tick (still lock) (phase_seen [] p)

abbrev pub change_of : Machine → Lock → Course → Change
change_of m lock c = change_made m (answer_of m) lock.actor lock.tick (still lock) (course_seen [] c)

abbrev pub translation_of : Machine → Lock → Course → ℕ → Translation
translation_of m lock c entry = translation_made m (answer_of m) lock.actor lock.tick (still lock) (course_seen [] c) entry

-- ---- stages

abbrev pub stage_told : Machine → Lock → (n : ℕ) → Stage → Stage
stage_told m lock n stage = stage_after m (answer_of m) lock.actor lock.tick n stage

abbrev pub Shoots : Machine → Lock → Option ShootSeen → Stage → Type 0
Shoots m lock seen stage = StageShoots m lock.actor lock.tick seen stage
