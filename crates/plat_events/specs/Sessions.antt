-- sessions: what an actor that has locked a page does until it unlocks it, operation by operation
use Rattle.std.specs.Prelude.{ℕ, ◌+◌, ◌^◌, ◌==◌, nat_lt, ◌&&◌, not, if◌then◌else◌, false, List, [], ◌∷◌, length, filter, Option, Some, None}
use Rattle.std.specs.Prelude.{unwrap_or, slice_index, slice_index_or}
use Rattle.std.specs.Option.{option_map}
use Rattle.std.specs.List.{fold, list_any}
use Rattle.plat_base.specs.Verdicts.{Answer}
use Rattle.plat_base.specs.Machine.{Machine}
use Rattle.plat_base.specs.Pages.{numbers, distance, initial_value}
use Rattle.plat_base.specs.Copies.{same_frame}
use Rattle.plat_base.specs.Frames.{frame_at}
use Rattle.plat_base.specs.Messages.{removes_some}
use Rattle.plat_base.specs.Turns.{grant_of}
use Rattle.plat_base.specs.Decide.{decide, asks, is_empty, nearest, no_frame}
use Rattle.plat_base.specs.Alike.{same_verdict}
use Rattle.plat_base.specs.declared.frames.Frame.{Frame}
use Rattle.plat_base.specs.declared.frames.Dir.{Dir}
use Rattle.plat_base.specs.declared.items.Action.{Action}
use Rattle.plat_base.specs.declared.items.Action.TheVariants as action
use Rattle.plat_base.specs.declared.items.Cause.{Cause}
use Rattle.plat_base.specs.declared.items.Change.{Change}
use Rattle.plat_base.specs.declared.items.Translation.{Translation}
use Rattle.plat_base.specs.declared.policies.Decision.{Decision}
use Rattle.plat_base.specs.declared.policies.Verdict.TheVariants as verdict
use Rattle.plat_base.specs.declared.words.Op.{Op}
use Rattle.plat_base.specs.declared.words.Op.TheVariants as op
use Rattle.plat_base.specs.declared.words.WordName.{WordName}
use Rattle.plat_base.specs.declared.words.WordName.TheVariants as word
use Rattle.plat_events.specs.Words.{dir_word, stamp_word, last_read, seq_read, data_word, lowest_free, without_lowest, reference_place}
use Rattle.plat_events.specs.Shootdowns.{Shot, Watching, Shoot, Makes, Polls, Done, shot_next, shot_after, shoot_from}

-- what a page is locked for: a fault through an entry, or the daemon's look at it, which has no entry
pub record Fault : Type 0 where
  pub page : ℕ
  pub entry : Option ℕ
  pub cause : Cause

-- what the page's stamp said
pub record Stamp : Type 0 where
  pub last : Option ℕ
  pub seq : ℕ

-- the row of the table is fixed: the stamp, the frame that was taken, and the masks that were found by the posts so far
pub record Course : Type 0 where
  pub stamp : Stamp
  pub got : Option Frame
  pub posts : List ℕ

-- the next operation of a session; i counts the modules that gave no frame, w the words that are filled, and k the frames
-- that are given back
pub data Phase : Type 0 where
  Stamping : Phase  -- the stamp is loaded
  Seeking : (stamp : Stamp) (i : ℕ) → Phase  -- the pool of a module
  Taking : (stamp : Stamp) (i : ℕ) (seen : ℕ) → Phase  -- its lowest frame, where the pool is still as seen
  Returning : Phase  -- the unlock of a page that stays as it was
  Shooting : (course : Course) (shot : Shot) → Phase  -- a shootdown
  Filling : (course : Course) (w : ℕ) → Phase  -- a word of an empty page is stored
  Reading : (course : Course) (w : ℕ) → Phase  -- a word of the nearest copy is loaded
  Copying : (course : Course) (w : ℕ) (seen : ℕ) → Phase  -- and stored
  Giving : (course : Course) (k : ℕ) → Phase  -- a frame is given back
  Storing : (course : Course) → Phase  -- the stamp is stored
  Granting : (course : Course) → Phase  -- the reference is set
  Unlocking : (course : Course) → Phase  -- the unlock with the directory after

-- dir is the directory that the lock found
pub record Session : Type 0 where
  pub fault : Fault
  pub dir : Dir
  pub phase : Phase

-- the entry of a fault; a number past the last entry where there is none
abbrev pub entry_faulted : Machine → Fault → ℕ
entry_faulted m fault = unwrap_or fault.entry (length m.entries)

-- ---- the decision

-- the decision of actor a at tick now
abbrev pub decision_of : Machine → Answer → (a now : ℕ) → Session → Course → Decision
decision_of m answer a now s c = decide m answer s.dir c.stamp.last now a s.fault.cause c.got

-- behind those that are not farther away
abbrev pub insert_near : Machine → (node mo : ℕ) → List ℕ → List ℕ
insert_near m node mo [] = mo ∷ []
insert_near m node mo (x ∷ xs) =
    if nat_lt (distance m node mo) (distance m node x) then mo ∷ x ∷ xs else x ∷ insert_near m node mo xs

-- all modules from the nearest on, those of one distance in rising number
abbrev pub by_distance : Machine → (node : ℕ) → List ℕ
by_distance m node = fold (λ ms mo. insert_near m node mo ms) [] (numbers m.nodes)

-- the modules on which a frame is sought: all for an empty page, the own one for a page that moves
abbrev pub tried : Machine → Answer → (a now : ℕ) → Session → Stamp → List ℕ
tried m answer a now s st =
    if is_empty s.dir.state then by_distance m a
    else if asks s.fault.cause s.dir a && same_verdict (answer s.dir st.last now) verdict.Move then a ∷ [] else []

abbrev pub module_tried : Machine → Answer → (a now : ℕ) → Session → Stamp → ℕ → ℕ
module_tried m answer a now s st i = slice_index (tried m answer a now s st) i

-- ---- the frames of a course

-- the copies that the directory after does not keep
abbrev pub going : Dir → Decision → List Frame
going dir d = filter (λ f. not (list_any (same_frame f) d.after.copies)) dir.copies

abbrev pub frame_going : Dir → Decision → ℕ → Frame
frame_going dir d k = slice_index_or (going dir d) k no_frame

abbrev pub memory_at : Frame → ℕ → WordName
memory_at f w = word.Memory f.module f.number w

-- the last invalidation after the change
abbrev pub last_stored : Decision → (now : ℕ) → Option ℕ → Option ℕ
last_stored d now last = if d.sets_last then Some now else last

-- ---- the operation

abbrev pub session_next : Machine → Answer → (a now : ℕ) → Session → Phase → WordName × Op
session_next m answer a now s Stamping = (word.Stamp s.fault.page, op.Load)
session_next m answer a now s (Seeking st i) = (word.Pool (module_tried m answer a now s st i), op.Load)
session_next m answer a now s (Taking st i seen) =
    (word.Pool (module_tried m answer a now s st i), op.Exchange seen (without_lowest seen))
session_next m answer a now s Returning = (word.Dir s.fault.page, op.Store (dir_word s.dir false))
session_next m answer a now s (Shooting c shot) =
    shot_next m a s.fault.page (decision_of m answer a now s c).removed c.posts shot
session_next m answer a now s (Filling c w) =
    (memory_at (decision_of m answer a now s c).frame w, op.Store (data_word (initial_value m s.fault.page w) 0))
session_next m answer a now s (Reading c w) = (memory_at (nearest m a s.dir.copies) w, op.Load)
session_next m answer a now s (Copying c w seen) = (memory_at (decision_of m answer a now s c).frame w, op.Store seen)
session_next m answer a now s (Giving c k) =
    let f = frame_going s.dir (decision_of m answer a now s c) k in (word.Pool f.module, op.Or (2 ^ f.number))
session_next m answer a now s (Storing c) =
    (word.Stamp s.fault.page, op.Store (stamp_word (last_stored (decision_of m answer a now s c) now c.stamp.last) (c.stamp.seq + 1)))
session_next m answer a now s (Granting c) = (word.Cmap (entry_faulted m s.fault), op.Or (2 ^ reference_place a))
session_next m answer a now s (Unlocking c) =
    (word.Dir s.fault.page, op.Store (dir_word (decision_of m answer a now s c).after false))

-- ---- what follows it, from the last phase to the first

-- the next frame is given back, or the stamp is stored
abbrev pub give_from : Machine → Answer → (a now : ℕ) → Session → Course → ℕ → Phase
give_from m answer a now s c k =
    if nat_lt k (length (going s.dir (decision_of m answer a now s c))) then Giving c k else Storing c

abbrev pub fill_from : Machine → Answer → (a now : ℕ) → Session → Course → ℕ → Phase
fill_from m answer a now s c w = if nat_lt w m.words then Filling c w else give_from m answer a now s c 0

abbrev pub copy_from : Machine → Answer → (a now : ℕ) → Session → Course → ℕ → Phase
copy_from m answer a now s c w = if nat_lt w m.words then Reading c w else give_from m answer a now s c 0

-- a fill fills its frame, and a replicate or migrate copies into it
abbrev pub shot_over : Machine → Answer → (a now : ℕ) → Session → Course → Action → Phase
shot_over m answer a now s c action.Fill = fill_from m answer a now s c 0
shot_over m answer a now s c action.MapLocal = give_from m answer a now s c 0
shot_over m answer a now s c action.MapRemote = give_from m answer a now s c 0
shot_over m answer a now s c action.Replicate = copy_from m answer a now s c 0
shot_over m answer a now s c action.Migrate = copy_from m answer a now s c 0
shot_over m answer a now s c action.Collapse = give_from m answer a now s c 0
shot_over m answer a now s c action.Thaw = give_from m answer a now s c 0

abbrev pub with_posts : Course → List ℕ → Course
with_posts c posts = record { stamp = c.stamp; got = c.got; posts = posts }

-- the session with its shootdown as it stands; after a poll it watches its target again
abbrev pub with_shoot : Machine → Answer → (a now : ℕ) → Session → Course → Shoot → Phase
with_shoot m answer a now s c (Makes posts shot) = Shooting (with_posts c posts) shot
with_shoot m answer a now s c (Polls posts k) = Shooting (with_posts c posts) (Watching k)
with_shoot m answer a now s c (Done posts) =
    shot_over m answer a now s (with_posts c posts) (decision_of m answer a now s c).action

-- the row is fixed: its shootdown begins, where it removes something
abbrev pub start_course : Machine → Answer → (a now : ℕ) → Session → Course → Phase
start_course m answer a now s c =
    if removes_some (decision_of m answer a now s c).removed
    then with_shoot m answer a now s c (shoot_from m a s.fault.page [])
    else shot_over m answer a now s c (decision_of m answer a now s c).action

abbrev pub with_frame_got : Machine → Answer → (a now : ℕ) → Session → Stamp → Option Frame → Phase
with_frame_got m answer a now s st got = start_course m answer a now s (record { stamp = st; got = got; posts = [] })

-- the next module; where every one gave 0, an empty page stays as it was, and another page goes without a frame
abbrev pub seek_from : Machine → Answer → (a now : ℕ) → Session → Stamp → ℕ → Phase
seek_from m answer a now s st i =
    if nat_lt i (length (tried m answer a now s st)) then Seeking st i
    else if is_empty s.dir.state then Returning else with_frame_got m answer a now s st None

-- a pool was found: 0 leads to the next module
abbrev pub pool_found : Machine → Answer → (a now : ℕ) → Session → Stamp → ℕ → ℕ → Phase
pool_found m answer a now s st i n = if n == 0 then seek_from m answer a now s st (i + 1) else Taking st i n

abbrev pub frame_taken : Machine → Answer → (a now : ℕ) → Session → Stamp → ℕ → ℕ → Frame
frame_taken m answer a now s st i n = frame_at (module_tried m answer a now s st i) (lowest_free n)

-- the phase after a session's operation found n; an unlock is its last
abbrev pub phase_after : Machine → Answer → (a now : ℕ) → Session → ℕ → Phase → Phase
phase_after m answer a now s n Stamping = seek_from m answer a now s (record { last = last_read n; seq = seq_read n }) 0
phase_after m answer a now s n (Seeking st i) = pool_found m answer a now s st i n
phase_after m answer a now s n (Taking st i seen) =
    if n == seen
    then with_frame_got m answer a now s st (Some (frame_taken m answer a now s st i seen))
    else pool_found m answer a now s st i n
phase_after m answer a now s n Returning = Returning
phase_after m answer a now s n (Shooting c shot) = with_shoot m answer a now s c (shot_after m a s.fault.page c.posts n shot)
phase_after m answer a now s n (Filling c w) = fill_from m answer a now s c (w + 1)
phase_after m answer a now s n (Reading c w) = Copying c w n
phase_after m answer a now s n (Copying c w seen) = copy_from m answer a now s c (w + 1)
phase_after m answer a now s n (Giving c k) = give_from m answer a now s c (k + 1)
phase_after m answer a now s n (Storing c) = if a == m.nodes then Unlocking c else Granting c
phase_after m answer a now s n (Granting c) = Unlocking c
phase_after m answer a now s n (Unlocking c) = Unlocking c

abbrev pub with_phase : Session → Phase → Session
with_phase s phase = record { fault = s.fault; dir = s.dir; phase = phase }

-- ---- the change, and the translation that it grants

-- the change of a session that unlocks
abbrev pub change_made : Machine → Answer → (a now : ℕ) → Session → Course → Change
change_made m answer a now s c =
    let d = decision_of m answer a now s c
    in record {
      actor = a;
      page = s.fault.page;
      seq = c.stamp.seq;
      time = now;
      cause = s.fault.cause;
      action = d.action;
      removed = d.removed;
      before = s.dir;
      after = d.after;
      granted = option_map (λ e. grant_of e s.fault.cause d) s.fault.entry;
    }

-- the translation of an entry that the session grants
abbrev pub translation_made : Machine → Answer → (a now : ℕ) → Session → Course → ℕ → Translation
translation_made m answer a now s c entry =
    record { grant = grant_of entry s.fault.cause (decision_of m answer a now s c); seq = c.stamp.seq; restricted = false }
