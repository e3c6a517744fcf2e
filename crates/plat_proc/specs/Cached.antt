-- what the cache of translations keeps after each operation
use Rattle.std.specs.Prelude.{ℕ, ◌==◌, if◌then◌else◌, List, map, Option, Some, None}
use Rattle.plat_base.specs.Machine.{Machine}
use Rattle.plat_base.specs.Pages.{page_of}
use Rattle.plat_base.specs.Flat.{is_write}
use Rattle.plat_base.specs.GuestRun.{Reach, reach_of, want_of}
use Rattle.plat_base.specs.Messages.{removes_some}
use Rattle.plat_base.specs.declared.guests.Want.{Want}
use Rattle.plat_base.specs.declared.guests.Want.TheVariants as want
use Rattle.plat_events.specs.Events.{entry_of, reach_now, vpage_of}
use Rattle.plat_events.specs.Privates.{Place, Polling, Looking, Applying, Ticking, Switching, Loading, Expecting, Exchanging, Locking}
use Rattle.plat_events.specs.Privates.{InSession, Leaving, Lessening, Gone, LiveLooking, TimeLooking, Over, Private}
use Rattle.plat_events.specs.Scans.{entry_scanned}
use Rattle.plat_events.specs.Sessions.{Course, Phase, Stamping, Seeking, Taking, Returning, Shooting, Filling, Reading, Copying, Giving}
use Rattle.plat_events.specs.Sessions.{Storing, Granting, Unlocking, Session, decision_of}
use Rattle.plat_handler.specs.Phases.{answer_of}
use Rattle.plat_pmap.specs.Slots.{filled, no_slots, without_slot}
use Rattle.plat_pmap.specs.Translations.{translation_of, usable}
use Rattle.plat_pmap.specs.declared.atcs.Slot.{Slot}
use Rattle.plat_proc.specs.Followed.{is_told}
use Rattle.plat_proc.specs.ProcSeen.{ProcSeen}

-- a place of an entry of the page is emptied
abbrev pub without_slot_of : Machine → (page : ℕ) → Option Slot → Option Slot
without_slot_of m page None = None
without_slot_of m page (Some s) = if page_of m s.entry == page then None else Some s

-- an access is looked up: it fills the place of its virtual page where it misses and has enough right
abbrev pub slots_looked : Machine → Private → Reach → List (Option Slot) → List (Option Slot)
slots_looked m p r slots =
    filled (entry_of m r) (vpage_of m r) (is_write r.kind) (usable r.kind (translation_of p.pmap (entry_of m r))) slots

abbrev pub slots_ticked : Machine → Private → List (Option Slot) → Want → List (Option Slot)
slots_ticked m p slots want.Local = slots
slots_ticked m p slots (want.Access kind space addr operand) = slots_looked m p (reach_of m kind space addr operand) slots
slots_ticked m p slots (want.Switch space) = slots
slots_ticked m p slots (want.Print value) = slots
slots_ticked m p slots want.Halted = slots
slots_ticked m p slots want.Trap = slots

-- an unlock with a change that removes translations empties the places of its page
abbrev pub slots_forgotten : Machine → (a : ℕ) → Private → Session → Course → List (Option Slot) → List (Option Slot)
slots_forgotten m a p s c slots =
    if removes_some (decision_of m (answer_of m) a p.now s c).removed then map (without_slot_of m s.fault.page) slots else slots

abbrev pub slots_in : Machine → (a : ℕ) → Private → Session → List (Option Slot) → Phase → List (Option Slot)
slots_in m a p s slots Stamping = slots
slots_in m a p s slots (Seeking st i) = slots
slots_in m a p s slots (Taking st i seen) = slots
slots_in m a p s slots Returning = slots
slots_in m a p s slots (Shooting c shot) = slots
slots_in m a p s slots (Filling c w) = slots
slots_in m a p s slots (Reading c w) = slots
slots_in m a p s slots (Copying c w seen) = slots
slots_in m a p s slots (Giving c k) = slots
slots_in m a p s slots (Storing c) = slots
slots_in m a p s slots (Granting c) = slots
slots_in m a p s slots (Unlocking c) = slots_looked m p (reach_now m a p) (slots_forgotten m a p s c slots)

abbrev pub slots_at : Machine → (a : ℕ) → Private → List (Option Slot) → Place → List (Option Slot)
slots_at m a p slots (Polling onward) = slots
slots_at m a p slots (Looking i moment onward) = slots
slots_at m a p slots (Applying i message moment onward) = map (without_slot (entry_scanned m p i)) slots
slots_at m a p slots Ticking = slots_ticked m p slots (want_of m a p.guest)
slots_at m a p slots (Switching space) = no_slots
slots_at m a p slots Loading = slots
slots_at m a p slots Expecting = slots
slots_at m a p slots (Exchanging seen) = slots
slots_at m a p slots (Locking fault) = slots
slots_at m a p slots (InSession s) = slots_in m a p s slots s.phase
slots_at m a p slots (Leaving e) = slots
slots_at m a p slots (Lessening e) = slots
slots_at m a p slots (Gone e) = slots
slots_at m a p slots LiveLooking = slots
slots_at m a p slots TimeLooking = slots
slots_at m a p slots Over = slots

abbrev pub slots_followed : Machine → ProcSeen → List (Option Slot)
slots_followed m x = slots_at m x.actor x.state x.slots x.state.place

-- what the cache keeps once the next operation told n
abbrev pub slots_told : Machine → ProcSeen → ℕ → List (Option Slot)
slots_told m x n = if is_told m x n then slots_followed m x else x.slots
