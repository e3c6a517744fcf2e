-- the runs of this crate's tests: their machines, items and ends
use Rattle.std.specs.Prelude.{List, [], ◌∷◌, None}
use Rattle.plat_base.specs.Machine.{Machine}
use Rattle.plat_base.specs.declared.guests.Instr.{Instr}
use Rattle.plat_base.specs.declared.guests.Instr.TheVariants as instr
use Rattle.plat_base.specs.declared.items.Kind.TheVariants as kind
use Rattle.plat_base.specs.declared.items.Item.{Item}
use Rattle.plat_base.specs.declared.items.Item.TheVariants as item
use Rattle.plat_base.specs.declared.endings.Ended.{Ended}
use Rattle.plat_base.specs.declared.policies.PolicyKind.TheVariants as policy
use Rattle.plat_samples.specs.Samples.{entry, guest, small}
use Rattle.plat_samples.specs.Shootdown.{access, filled, halted}

-- ---- the smallest run: one guest stores, loads and prints

abbrev pub smallest_code : List Instr
smallest_code = instr.Set 1 5 ∷ instr.Store 1 0 None ∷ instr.Load 2 0 None ∷ instr.Print 2 ∷ instr.Halt ∷ []

abbrev pub smallest : Machine
smallest = small
    (record { nodes = 1; frames = 1; pages = 1; budget = 10 })
    policy.Place (entry 0 0 ∷ []) [] (guest smallest_code [] ∷ [])

abbrev pub smallest_items : List Item
smallest_items =
    item.Change filled ∷ item.Access (access 0 kind.Store 0 5 1 0) ∷ item.Access (access 0 kind.Load 5 5 1 0) ∷ []

abbrev pub smallest_ends : List Ended
smallest_ends = halted 5 ∷ []

-- ---- the run of the guests that share a page

abbrev pub sharing_ends : List Ended
sharing_ends = halted 5 ∷ halted 3 ∷ []
