-- the private state of an actor: where it stands within its turn or pass, and what it alone knows
use Rattle.std.specs.Prelude.{ℕ, ◌+◌, ◌==◌, if◌then◌else◌, Bool, true, false, List, [], map, replicate, Option, None, slice_index_or}
use Rattle.plat_base.specs.Machine.{Machine}
use Rattle.plat_base.specs.Pages.{numbers}
use Rattle.plat_base.specs.GuestRun.{GuestState, guest_start}
use Rattle.plat_base.specs.Rules.{has_daemon}
use Rattle.plat_base.specs.Cache.{no_places}
use Rattle.plat_base.specs.Cache.{Place as CachePlace}
use Rattle.plat_base.specs.declared.items.Message.{Message}
use Rattle.plat_base.specs.declared.items.Moment.{Moment}
use Rattle.plat_base.specs.declared.items.Item.{Item}
use Rattle.plat_base.specs.declared.items.Translation.{Translation}
use Rattle.plat_base.specs.declared.endings.End.{End}
use Rattle.plat_base.specs.declared.policies.PolicyKind.{PolicyKind}
use Rattle.plat_base.specs.declared.policies.PolicyKind.TheVariants as policy
use Rattle.plat_events.specs.Places.{entry_count}
use Rattle.plat_events.specs.Sessions.{Fault, Session}

-- what follows a poll and its scan: a new turn, the end of this turn, the lock again, or the session again
pub data Onward : Type 0 where
  NewTurn : Onward
  TurnOver : Onward
  Relock : (fault : Fault) → Onward
  Rewait : (session : Session) → Onward

-- where an actor stands, which is named after the operation that it makes next; i counts the entries that a scan has passed
pub data Place : Type 0 where
  Polling : (onward : Onward) → Place  -- a poll
  Looking : (i : ℕ) (moment : Moment) (onward : Onward) → Place  -- a scan's look at a mask
  Applying : (i : ℕ) (message : Message) (moment : Moment) (onward : Onward) → Place  -- a message is applied
  Ticking : Place  -- the tick of a turn
  Switching : (space : ℕ) → Place  -- the swap of the active space
  Loading : Place  -- the load of a data word
  Expecting : Place  -- the load before a write
  Exchanging : (seen : ℕ) → Place  -- the write, where the word is as seen
  Locking : (fault : Fault) → Place  -- the lock of a directory
  InSession : (session : Session) → Place  -- an operation of a session
  Leaving : (end : End) → Place  -- the swap of the active space to none
  Lessening : (end : End) → Place  -- one processor less is live
  Gone : (end : End) → Place  -- a processor has ended
  LiveLooking : Place  -- the daemon loads the live processors
  TimeLooking : Place  -- and the time
  Over : Place  -- the daemon has ended

-- now is the tick of the turn, or the time of the daemon's pass; pmap has a place for each entry of the machine, and due is
-- the time of the daemon's next pass
pub record Private : Type 0 where
  pub turns : ℕ
  pub now : ℕ
  pub guest : GuestState
  pub pmap : List (Option Translation)
  pub atc : List (Option CachePlace)
  pub due : ℕ
  pub place : Place
  pub journal : List Item

-- the actor makes no further operation
abbrev pub is_over : Place → Bool
is_over (Polling onward) = false
is_over (Looking i moment onward) = false
is_over (Applying i message moment onward) = false
is_over Ticking = false
is_over (Switching space) = false
is_over Loading = false
is_over Expecting = false
is_over (Exchanging seen) = false
is_over (Locking fault) = false
is_over (InSession session) = false
is_over (Leaving end) = false
is_over (Lessening end) = false
is_over (Gone end) = true
is_over LiveLooking = false
is_over TimeLooking = false
is_over Over = true

-- the translation of an entry
abbrev pub translation_at : Private → ℕ → Option Translation
translation_at p e = slice_index_or p.pmap e None

-- ---- the start

-- actors: the processors, and then the daemon, where the policy has one
abbrev pub actor_count : Machine → ℕ
actor_count m = m.nodes + (if has_daemon m.policy then 1 else 0)

-- the daemon's period
abbrev pub period : PolicyKind → ℕ
period policy.Place = 0
period policy.Replicate = 0
period (policy.Platinum t1 t2) = t2

abbrev pub first_place : Machine → ℕ → Place
first_place m a = if a == m.nodes then LiveLooking else Polling NewTurn

-- the private state of an actor at the start
abbrev pub first_private : Machine → ℕ → Private
first_private m a = record {
  turns = 0;
  now = 0;
  guest = guest_start m a;
  pmap = replicate (entry_count m) None;
  atc = no_places;
  due = period m.policy;
  place = first_place m a;
  journal = [];
}

abbrev pub first_privates : Machine → List Private
first_privates m = map (first_private m) (numbers (actor_count m))
