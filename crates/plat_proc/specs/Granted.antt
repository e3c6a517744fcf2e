-- the end of a fault whose change is made: what the processor's private state and its cache become
use Rattle.std.specs.Prelude.{ℕ, if◌then◌else◌, List, [], ◌∷◌, ◌++◌, map, Option}
use Rattle.plat_base.specs.Machine.{Machine}
use Rattle.plat_base.specs.Flat.{is_write}
use Rattle.plat_base.specs.Messages.{removes_some}
use Rattle.plat_base.specs.declared.items.Change.{Change}
use Rattle.plat_base.specs.declared.items.Item.TheVariants as item
use Rattle.plat_events.specs.Privates.{Private}
use Rattle.plat_events.specs.Events.{forget_page, entry_of, look_up, reach_now, vpage_of}
use Rattle.plat_pmap.specs.declared.atcs.Slot.{Slot}
use Rattle.plat_pmap.specs.Slots.{Agrees}
use Rattle.plat_proc.specs.Cached.{slots_looked, without_slot_of}
use Rattle.plat_proc.specs.ProcSeen.{ProcSeen}

-- with the item of the change
abbrev pub changed_by : Change → Private → Private
changed_by c p = record p { journal = p.journal ++ item.Change c ∷ [] }

-- the cache forgets the page of a change that removes translations, and the access is looked up again
abbrev pub granted_to : Machine → (a : ℕ) → Change → Private → Private
granted_to m a c p = look_up m (reach_now m a p) (forget_page m c.page c.removed (changed_by c p))

-- what the cache keeps of its entries behind the change
abbrev pub slots_left : Machine → Change → List (Option Slot) → List (Option Slot)
slots_left m c slots = if removes_some c.removed then map (without_slot_of m c.page) slots else slots

abbrev pub slots_granted : Machine → (a : ℕ) → Private → Change → List (Option Slot) → List (Option Slot)
slots_granted m a p c slots = slots_looked m p (reach_now m a p) (slots_left m c slots)

-- what it keeps of the entry under way behind the change is the translation of that entry
abbrev pub GrantAgrees : Machine → ProcSeen → Change → Type 0
GrantAgrees m x c =
    let r = reach_now m x.actor x.state
    in Agrees (slots_left m c x.slots) x.state.pmap (entry_of m r) (vpage_of m r) (is_write r.kind)
