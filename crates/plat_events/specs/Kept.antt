-- what the shared words and the private states mean together: running sessions, kept copies, and translations that are
-- effective or usable
use Rattle.std.specs.Prelude.{ℕ, ◌==◌, ◌&&◌, not, if◌then◌else◌, Bool, true, false, List, find, drop, Option, Some, None, slice_index}
use Rattle.std.specs.Prelude.{slice_index_or}
use Rattle.std.specs.Option.{option_map, option_map_or}
use Rattle.std.specs.List.{list_any, filter_map, enumerate_from}
use Rattle.plat_base.specs.Verdicts.{Answer}
use Rattle.plat_base.specs.Machine.{Machine}
use Rattle.plat_base.specs.Pages.{space_of, entries_of_space}
use Rattle.plat_base.specs.Copies.{same_frame}
use Rattle.plat_base.specs.Held.{lowered}
use Rattle.plat_base.specs.Directories.{dir_of}
use Rattle.plat_base.specs.declared.frames.Frame.{Frame}
use Rattle.plat_base.specs.declared.items.Message.{Message}
use Rattle.plat_base.specs.declared.items.Moment.{Moment}
use Rattle.plat_base.specs.declared.items.Moment.TheVariants as moment
use Rattle.plat_base.specs.declared.items.Translation.{Translation}
use Rattle.plat_base.specs.declared.words.WordName.{WordName}
use Rattle.plat_events.specs.Places.{place_of}
use Rattle.plat_events.specs.Sessions.{Session}
use Rattle.plat_events.specs.Privates.{Onward, NewTurn, TurnOver, Relock, Rewait, Place, Polling, Looking, Applying, Ticking, Switching}
use Rattle.plat_events.specs.Privates.{Loading, Expecting, Exchanging, Locking, InSession, Leaving, Lessening, Gone, LiveLooking}
use Rattle.plat_events.specs.Privates.{TimeLooking, Over, Private, first_private}
use Rattle.plat_events.specs.Standings.{has_given}
use Rattle.plat_events.specs.Runs.{Fine}

-- a word of the state
abbrev pub word_at : Machine → Fine → WordName → ℕ
word_at m s name = slice_index s.words (place_of m name)

-- the private state of an actor
abbrev pub private_of : Machine → Fine → ℕ → Private
private_of m s a = slice_index_or s.privates a (first_private m a)

-- ---- sessions that run

abbrev pub session_behind : Onward → Option Session
session_behind NewTurn = None
session_behind TurnOver = None
session_behind (Relock fault) = None
session_behind (Rewait session) = Some session

-- the session of an actor at this place, from the operation behind its lock to its unlock; its polls and scans are part of it
abbrev pub session_of : Place → Option Session
session_of (Polling onward) = session_behind onward
session_of (Looking i moment onward) = session_behind onward
session_of (Applying i message moment onward) = session_behind onward
session_of Ticking = None
session_of (Switching space) = None
session_of Loading = None
session_of Expecting = None
session_of (Exchanging seen) = None
session_of (Locking fault) = None
session_of (InSession session) = Some session
session_of (Leaving end) = None
session_of (Lessening end) = None
session_of (Gone end) = None
session_of LiveLooking = None
session_of TimeLooking = None
session_of Over = None

-- a session with its actor, and the tick of that actor's turn or pass
pub record Running : Type 0 where
  pub actor : ℕ
  pub now : ℕ
  pub session : Session

abbrev pub running_of : ℕ × Private → Option Running
running_of x = option_map (λ s. record { actor = x.0; now = x.1.now; session = s }) (session_of x.1.place)

abbrev pub runs_on : (page : ℕ) → Running → Bool
runs_on page r = r.session.fault.page == page

-- the session on a page
abbrev pub session_on : List Private → (page : ℕ) → Option Running
session_on privates page = find (runs_on page) (filter_map running_of (enumerate_from 0 privates))

-- ---- kept copies

abbrev pub gave_back : Machine → Answer → Option Running → Frame → Bool
gave_back m answer None f = false
gave_back m answer (Some r) f = has_given m answer r.actor r.now r.session f

abbrev pub is_copy_of : List Frame → Frame → Bool
is_copy_of copies f = list_any (same_frame f) copies

-- a copy of the page's directory that the session on the page has not given back
abbrev pub is_kept : Machine → Answer → Fine → (page : ℕ) → Frame → Bool
is_kept m answer s page f =
    is_copy_of (dir_of s.history page).copies f && not (gave_back m answer (session_on s.privates page) f)

-- ---- translations with what waits for them

-- after its pending messages: an invalidate takes it away, and a restrict lowers it to read
abbrev pub effective : (invalidate restrict : Bool) → Option Translation → Option Translation
effective invalidate restrict t = if invalidate then None else if restrict then lowered t else t

-- the processor has swapped its active space for none
abbrev pub has_left : Place → Bool
has_left (Polling onward) = false
has_left (Looking i moment onward) = false
has_left (Applying i message moment onward) = false
has_left Ticking = false
has_left (Switching space) = false
has_left Loading = false
has_left Expecting = false
has_left (Exchanging seen) = false
has_left (Locking fault) = false
has_left (InSession session) = false
has_left (Leaving end) = false
has_left (Lessening end) = true
has_left (Gone end) = true
has_left LiveLooking = false
has_left TimeLooking = false
has_left Over = false

abbrev pub scan_left : Moment → (i : ℕ) → Option ℕ
scan_left moment.Interrupt i = None
scan_left moment.Activation i = Some i

-- how many entries the activation scan that is under way has passed
abbrev pub activation_at : Place → Option ℕ
activation_at (Polling onward) = None
activation_at (Looking i moment onward) = scan_left moment i
activation_at (Applying i message moment onward) = scan_left moment i
activation_at Ticking = None
activation_at (Switching space) = None
activation_at Loading = None
activation_at Expecting = None
activation_at (Exchanging seen) = None
activation_at (Locking fault) = None
activation_at (InSession session) = None
activation_at (Leaving end) = None
activation_at (Lessening end) = None
activation_at (Gone end) = None
activation_at LiveLooking = None
activation_at TimeLooking = None
activation_at Over = None

-- the processor is active in the space of the entry
abbrev pub is_active : Machine → Private → (entry : ℕ) → Bool
is_active m p e = space_of m e == p.guest.space && not (has_left p.place)

-- an activation scan has still to pass the entry
abbrev pub is_unscanned : Machine → Private → (entry : ℕ) → Bool
is_unscanned m p e =
    option_map_or (λ i. list_any (λ x. x == e) (drop i (entries_of_space m p.guest.space))) (activation_at p.place) false

-- a translation of the entry may be used as soon as the processor wants it
abbrev pub is_usable : Machine → Private → (entry : ℕ) → Bool
is_usable m p e = is_active m p e && not (is_unscanned m p e)

-- the message that the processor is about to apply to an entry
abbrev pub message_at : Machine → Private → Place → Option (ℕ × Message)
message_at m p (Polling onward) = None
message_at m p (Looking i moment onward) = None
message_at m p (Applying i message moment onward) = Some (slice_index (entries_of_space m p.guest.space) i, message)
message_at m p Ticking = None
message_at m p (Switching space) = None
message_at m p Loading = None
message_at m p Expecting = None
message_at m p (Exchanging seen) = None
message_at m p (Locking fault) = None
message_at m p (InSession session) = None
message_at m p (Leaving end) = None
message_at m p (Lessening end) = None
message_at m p (Gone end) = None
message_at m p LiveLooking = None
message_at m p TimeLooking = None
message_at m p Over = None
