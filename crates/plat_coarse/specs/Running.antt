-- a coarse run in the engine's hands: what is made of a chronicle with its ends
use Rattle.std.specs.Prelude.{ℕ, List, map, filter}
use Rattle.plat_base.specs.Machine.{Machine}
use Rattle.plat_base.specs.Pages.{numbers}
use Rattle.plat_base.specs.Coarse.{Coarse}
use Rattle.plat_base.specs.Messages.{is_target, interrupt_of, interrupts, switch_items}
use Rattle.plat_base.specs.Turns.{Made, fault_items, fault_made, made_by, thaw, daemon}
use Rattle.plat_base.specs.Verdicts.{Answer}
use Rattle.plat_base.specs.declared.guests.Want.{Want}
use Rattle.plat_base.specs.declared.endings.Ended.{Ended}
use Rattle.plat_base.specs.declared.items.Removed.{Removed}
use Rattle.plat_base.specs.declared.items.Item.{Item}
use Rattle.plat_base.specs.declared.policies.Decision.{Decision}
use Rattle.plat_chronicle.specs.Chronicle.{Chronicled}
use Rattle.plat_coarse.specs.Reached.{reach_seen}
use Rattle.plat_coarse.specs.declared.accesses.Reached.{Reached}

-- the run of a chronicle with its ends
abbrev pub state_of : Chronicled → List Ended → Coarse
state_of chronicle ends = record { history = chronicle.items; ends = ends }

-- the messages by interrupt for one entry
abbrev pub interrupts_for : Machine → Coarse → (initiator : ℕ) → Removed → (entry : ℕ) → List Item
interrupts_for m s initiator removed entry =
    map (interrupt_of removed entry) (filter (is_target m s initiator entry) (numbers m.nodes))

-- the messages by interrupt for one entry, and for the entries of a page
abbrev pub entry_interrupts_now : Chronicled → List Ended → (initiator entry : ℕ) → Removed → List Item
entry_interrupts_now k ends initiator entry removed = interrupts_for k.machine (state_of k ends) initiator removed entry

abbrev pub interrupts_now : Chronicled → List Ended → (initiator page : ℕ) → Removed → List Item
interrupts_now k ends initiator page removed = interrupts k.machine (state_of k ends) initiator page removed

abbrev pub switch_items_now : Chronicled → (q space : ℕ) → List Item
switch_items_now k q space = switch_items k.machine k.items q space

-- what a fault and its decision make, and what a want makes
abbrev pub fault_items_now : Chronicled → List Ended → (q now entry : ℕ) → Reached → Decision → List Item
fault_items_now k ends q now entry reach d = fault_items k.machine (state_of k ends) q now entry (reach_seen reach) d

abbrev pub fault_made_now : Chronicled → Answer → List Ended → (q now entry : ℕ) → Reached → Made
fault_made_now k answer ends q now entry reach =
    fault_made k.machine answer (state_of k ends) q now entry (reach_seen reach)

abbrev pub made_now : Chronicled → Answer → List Ended → (q now : ℕ) → Want → Made
made_now k answer ends q now want = made_by k.machine answer (state_of k ends) q now want

-- the run after a page's thaw, and after the daemon's pass
abbrev pub thawed_now : Chronicled → Answer → List Ended → (now page : ℕ) → Coarse
thawed_now k answer ends now page = thaw k.machine answer now (state_of k ends) page

abbrev pub daemon_now : Chronicled → Answer → List Ended → ℕ → Coarse
daemon_now k answer ends now = daemon k.machine answer now (state_of k ends)
