-- what holds of a processor between two operations, whatever the words were that it found
use Rattle.std.specs.Prelude.{◌≡◌, ℕ, ◌<◌, ◌≤◌, ◌%◌, ◌==◌, ◌&&◌, not, Bool, true, false, List, Option, Some, None, IfSome, IsSome, is_some}
use Rattle.std.specs.Prelude.{slice_get}
use Rattle.plat_base.specs.Machine.{Machine}
use Rattle.plat_base.specs.Pages.{page_of}
use Rattle.plat_base.specs.Cache.{serves_access}
use Rattle.plat_base.specs.Flat.{is_write}
use Rattle.plat_base.specs.Messages.{removes_some}
use Rattle.plat_base.specs.Rooms.{processor_room}
use Rattle.plat_base.specs.declared.configs.Entry.{Entry}
use Rattle.plat_events.specs.Privates.{Private, translation_at}
use Rattle.plat_events.specs.Sessions.{Session, entry_faulted}
use Rattle.plat_events.specs.Standings.{unlocking_of, removes_by}
use Rattle.plat_events.specs.Kept.{session_of}
use Rattle.plat_events.specs.Events.{reach_now}
use Rattle.plat_events.specs.Shown.{IsReachedAlone}
use Rattle.plat_handler.specs.HandlerSeen.{HandlerSeen, HandlesOn}
use Rattle.plat_handler.specs.Stages.{place_in}
use Rattle.plat_handler.specs.Phases.{answer_of}
use Rattle.plat_local_laws.specs.Faults.{EndOk}
use Rattle.plat_pmap.specs.Slots.{AreSlots, place_of}
use Rattle.plat_pmap.specs.declared.atcs.Slot.{Slot}
use Rattle.plat_proc.specs.ProcSeen.{ProcSeen}
use Rattle.plat_proc.specs.declared.procs.Stepped.{Stepped}
use Rattle.plat_proc.specs.declared.procs.Stepped.TheVariants.{More, Ended}

-- ---- the fault under way

-- its handler is this processor's, in this turn, in its session or before it, and one of the machine
pub record IsHandling (m : Machine) (a : ℕ) (p : Private) (h : HandlerSeen) : Type 0 where
  pub actor : h.actor ≡ a
  pub now : h.now ≡ p.now
  pub stands : IsSome (place_in h.stage)
  pub on : HandlesOn m h

-- ---- the cache of translations

-- the session has granted a translation to this entry, and removes none
abbrev pub grants_in : Machine → (a : ℕ) → Private → (entry : ℕ) → Session → Bool
grants_in m a p e s =
    not (removes_some (removes_by m (answer_of m) a p.now s)) && is_some (unlocking_of s.phase) && entry_faulted m s.fault == e

-- the session removes translations of this entry's page
abbrev pub removes_in : Machine → (a : ℕ) → Private → (entry : ℕ) → Session → Bool
removes_in m a p e s = removes_some (removes_by m (answer_of m) a p.now s) && page_of m e == s.fault.page

abbrev pub grants_by : Machine → (a : ℕ) → Private → (entry : ℕ) → Option Session → Bool
grants_by m a p e None = false
grants_by m a p e (Some s) = grants_in m a p e s

abbrev pub removes_of : Machine → (a : ℕ) → Private → (entry : ℕ) → Option Session → Bool
removes_of m a p e None = false
removes_of m a p e (Some s) = removes_in m a p e s

abbrev pub is_granted : Machine → (a : ℕ) → Private → (entry : ℕ) → Bool
is_granted m a p e = grants_by m a p e (session_of p.place)

abbrev pub is_removed : Machine → (a : ℕ) → Private → (entry : ℕ) → Bool
is_removed m a p e = removes_of m a p e (session_of p.place)

abbrev pub vpage_in : Option Entry → ℕ
vpage_in None = 0
vpage_in (Some x) = x.vpage

-- the virtual page of an entry
abbrev pub vpage_of_entry : Machine → (entry : ℕ) → ℕ
vpage_of_entry m e = vpage_in (slice_get m.entries e)

-- what a place of the cache keeps. The unlock of a session that removes translations empties the places of its page, and so
-- they may be behind until then; and what a session that removes none has granted goes into its place at the look-up behind it
pub record SlotFits (m : Machine) (a : ℕ) (p : Private) (k : ℕ) (s : Slot) : Type 0 where
  -- it is the place of the entry's virtual page
  pub place : k ≡ vpage_of_entry m s.entry % 8
  -- it keeps the translation of its entry
  pub current :
      is_removed m a p s.entry ≡ false → is_granted m a p s.entry ≡ false → translation_at p s.entry ≡ Some s.translation
  -- before the look-up of what was granted, it does not serve the access under way
  pub misses :
      is_granted m a p s.entry ≡ true → serves_access s.entry (is_write (reach_now m a p).kind) (place_of (Some s)) ≡ false

abbrev pub CacheFits : Machine → (a : ℕ) → Private → List (Option Slot) → Type 0
CacheFits m a p slots = (k : ℕ) (s : Slot) → slice_get slots k ≡ Some (Some s) → SlotFits m a p k s

-- ---- the processor

-- a processor of the machine, which its own operations have brought to where it stands, and whose journal has its room
pub record Fits (m : Machine) (x : ProcSeen) : Type 0 where
  pub processor : x.actor < m.nodes
  pub room : processor_room m.budget ≤ x.room
  pub alone : IsReachedAlone m (answer_of m) x.actor x.state
  pub handling : IfSome x.handler (IsHandling m x.actor x.state)
  pub slots : AreSlots x.slots
  pub cache : CacheFits m x.actor x.state x.slots

-- a processor has ended in this way for a reason: its guest halts or traps, or its turns are the budget, or no translation has
-- enough right for its access; and never because the run was cut off
abbrev pub EndsBy : Machine → ProcSeen → Stepped → Type 0
EndsBy m x More = Unit {0}
EndsBy m x (Ended e) = EndOk m x.actor x.state e
