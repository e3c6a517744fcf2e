-- the guest of an actor and its journal, and how many turns, changes and passes there were
use Rattle.std.specs.Prelude.{◌≡◌, ℕ, ◌+◌, ◌-◌, ◌*◌, ◌/◌, ◌<◌, ◌≤◌, if◌then◌else◌, Bool, true, false, length, count_by, sum_by, Option}
use Rattle.std.specs.Prelude.{Some, None, is_some}
use Rattle.plat_base.specs.Items.{is_change, is_applied}
use Rattle.plat_base.specs.Machine.{Machine}
use Rattle.plat_base.specs.GuestRun.{guest_run}
use Rattle.plat_base.specs.Done.{values_of}
use Rattle.plat_base.specs.declared.items.Item.{Item}
use Rattle.plat_base.specs.declared.items.Item.TheVariants as item
use Rattle.plat_base.specs.declared.items.Translation.{Translation}
use Rattle.plat_base.specs.declared.endings.End.{End}
use Rattle.plat_base.specs.declared.endings.End.TheVariants as end
use Rattle.plat_laws.specs.Guests.{IsGuest}
use Rattle.plat_events.specs.Privates.{Onward, NewTurn, TurnOver, Relock, Rewait, Place, Polling, Looking, Applying, Ticking, Switching}
use Rattle.plat_events.specs.Privates.{Loading, Expecting, Exchanging, Locking, InSession, Leaving, Lessening, Gone, LiveLooking}
use Rattle.plat_events.specs.Privates.{TimeLooking, Over, Private, period}
use Rattle.plat_events.specs.Standings.{unlocking_of}
use Rattle.plat_events.specs.Shown.{bit_of, items_by}

-- ---- the turn under way

-- a fault is under way behind a poll or a scan
abbrev pub faults_behind : Onward → Bool
faults_behind NewTurn = false
faults_behind TurnOver = false
faults_behind (Relock fault) = true
faults_behind (Rewait session) = true

-- a new turn is behind it
abbrev pub ticks_behind : Onward → Bool
ticks_behind NewTurn = true
ticks_behind TurnOver = false
ticks_behind (Relock fault) = false
ticks_behind (Rewait session) = false

-- the guest has not done the last instruction of the turns
abbrev pub is_undone : End → Bool
is_undone end.Halted = true
is_undone end.Trapped = true
is_undone end.Spent = false
is_undone end.NoFrames = true
is_undone end.Cut = false

-- the guest has not done the instruction of the turn under way
abbrev pub is_in_turn : Place → Bool
is_in_turn (Polling onward) = faults_behind onward
is_in_turn (Looking i moment onward) = faults_behind onward
is_in_turn (Applying i message moment onward) = faults_behind onward
is_in_turn Ticking = false
is_in_turn (Switching space) = true
is_in_turn Loading = true
is_in_turn Expecting = true
is_in_turn (Exchanging seen) = true
is_in_turn (Locking fault) = true
is_in_turn (InSession session) = true
is_in_turn (Leaving e) = is_undone e
is_in_turn (Lessening e) = is_undone e
is_in_turn (Gone e) = is_undone e
is_in_turn LiveLooking = false
is_in_turn TimeLooking = false
is_in_turn Over = false

-- a new turn is next
abbrev pub is_before_tick : Place → Bool
is_before_tick (Polling onward) = ticks_behind onward
is_before_tick (Looking i moment onward) = ticks_behind onward
is_before_tick (Applying i message moment onward) = ticks_behind onward
is_before_tick Ticking = true
is_before_tick (Switching space) = false
is_before_tick Loading = false
is_before_tick Expecting = false
is_before_tick (Exchanging seen) = false
is_before_tick (Locking fault) = false
is_before_tick (InSession session) = false
is_before_tick (Leaving e) = false
is_before_tick (Lessening e) = false
is_before_tick (Gone e) = false
is_before_tick LiveLooking = false
is_before_tick TimeLooking = false
is_before_tick Over = false

-- the change of the turn or of the page under way is still to come
abbrev pub is_faulting : Place → Bool
is_faulting (Polling onward) = faults_behind onward
is_faulting (Looking i moment onward) = faults_behind onward
is_faulting (Applying i message moment onward) = faults_behind onward
is_faulting Ticking = false
is_faulting (Switching space) = false
is_faulting Loading = false
is_faulting Expecting = false
is_faulting (Exchanging seen) = false
is_faulting (Locking fault) = true
is_faulting (InSession session) = true
is_faulting (Leaving e) = false
is_faulting (Lessening e) = false
is_faulting (Gone e) = false
is_faulting LiveLooking = false
is_faulting TimeLooking = false
is_faulting Over = false

-- how many pages the daemon has passed in this pass
abbrev pub pages_passed : Place → ℕ
pages_passed (Polling onward) = 0
pages_passed (Looking i moment onward) = 0
pages_passed (Applying i message moment onward) = 0
pages_passed Ticking = 0
pages_passed (Switching space) = 0
pages_passed Loading = 0
pages_passed Expecting = 0
pages_passed (Exchanging seen) = 0
pages_passed (Locking fault) = fault.page
pages_passed (InSession s) = s.fault.page
pages_passed (Leaving e) = 0
pages_passed (Lessening e) = 0
pages_passed (Gone e) = 0
pages_passed LiveLooking = 0
pages_passed TimeLooking = 0
pages_passed Over = 0

-- ---- the guest and its journal

-- how many turns of its run the guest has made
abbrev pub turns_done : Private → ℕ
turns_done p = if is_in_turn p.place then p.turns - 1 else p.turns

pub record GuestOk (m : Machine) (a : ℕ) (p : Private) : Type 0 where
  -- the guest goes on, its accesses and switches are those of the journal, and it is active in the space of the last switch
  pub run : IsGuest m p.journal (turns_done p) a
  -- it stands where its run on the values of the journal has come
  pub guest : p.guest ≡ (guest_run m a (values_of a p.journal) (turns_done p)).state
  -- a processor has made a turn, but where the next one is still to come; the daemon makes none
  pub turns_some : a < m.nodes → is_before_tick p.place ≡ false → 1 ≤ p.turns
  pub turns_none : a ≡ m.nodes → p.turns ≡ 0
  -- each item of the journal is the actor's own
  pub own : items_by a p.journal ≡ p.journal

-- ---- numbers

-- an access or a switch
abbrev pub is_operation : Item → Bool
is_operation (item.Access a) = true
is_operation (item.Change c) = false
is_operation (item.Applied x) = false
is_operation (item.Switch s) = true

-- how many messages can be applied to a translation: a restrict and an invalidate, or an invalidate where it is marked
abbrev pub messages_left : Option Translation → ℕ
messages_left None = 0
messages_left (Some t) = if t.restricted then 1 else 2

-- the translation is granted, and its change is still to come
abbrev pub is_granted : Place → Bool
is_granted (Polling onward) = false
is_granted (Looking i moment onward) = false
is_granted (Applying i message moment onward) = false
is_granted Ticking = false
is_granted (Switching space) = false
is_granted Loading = false
is_granted Expecting = false
is_granted (Exchanging seen) = false
is_granted (Locking fault) = false
is_granted (InSession s) = is_some (unlocking_of s.phase)
is_granted (Leaving e) = false
is_granted (Lessening e) = false
is_granted (Gone e) = false
is_granted LiveLooking = false
is_granted TimeLooking = false
is_granted Over = false

-- the passes of the daemon, one for each period
pub record PassesOk (m : Machine) (p : Private) : Type 0 where
  -- the next pass, or the one under way, is due at a multiple of the period
  pub due_some : 1 ≤ p.due / period m.policy
  pub due_is : p.due ≡ p.due / period m.policy * period m.policy
  pub due_most : p.due / period m.policy ≤ m.nodes * m.budget / period m.policy + 1
  -- a pass that is under way was due
  pub begun : is_faulting p.place ≡ true → p.due ≤ p.now
  pub now_most : p.now ≤ m.nodes * m.budget
  -- a thaw for each page at each pass, at most
  pub thaws : length p.journal ≤ (p.due / period m.policy - 1) * m.pages + pages_passed p.place

pub record NumbersOk (m : Machine) (a : ℕ) (p : Private) : Type 0 where
  -- a change for each turn of a processor at most, and one is still to come where a fault is under way
  pub changes : a < m.nodes → count_by is_change p.journal + bit_of (is_faulting p.place) ≤ p.turns
  -- an access or a switch for each turn at most, and one is still to come where the turn is not done
  pub operations : a < m.nodes → count_by is_operation p.journal + bit_of (is_in_turn p.place) ≤ p.turns
  -- two messages for each grant at most, those that can still be applied included
  pub messages :
      a < m.nodes →
      count_by is_applied p.journal + sum_by messages_left p.pmap ≤ 2 * (count_by is_change p.journal + bit_of (is_granted p.place))
  pub passes : a ≡ m.nodes → PassesOk m p
