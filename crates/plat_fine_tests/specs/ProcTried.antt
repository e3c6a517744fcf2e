-- the machines of this crate's tests: one node and one page, and a guest that runs code in space 0; and two nodes and two pages,
-- where each guest stores into its own page and loads from the other's
use Rattle.std.specs.Prelude.{ℕ, List, [], ◌∷◌, None}
use Rattle.plat_base.specs.Machine.{Machine, Program}
use Rattle.plat_base.specs.declared.policies.PolicyKind.TheVariants as policy
use Rattle.plat_base.specs.declared.guests.Instr.{Instr}
use Rattle.plat_base.specs.declared.guests.Instr.TheVariants as instr
use Rattle.plat_samples.specs.Samples.{entry, guest, small}

abbrev pub tried : List Instr → Machine
tried code = small
    (record { nodes = 1; frames = 1; pages = 1; budget = 10 })
    policy.Place (entry 0 0 ∷ []) [] (guest code [] ∷ [])

-- it stores 1 at its own address, loads from the other's, and prints what it found there
abbrev pub buffering_guest : ℕ → ℕ → Program
buffering_guest own other =
    guest (instr.Set 1 1 ∷ instr.Store 1 own None ∷ instr.Load 2 other None ∷ instr.Print 2 ∷ instr.Halt ∷ []) []

-- each virtual page of space 0 leads to the page of its number
abbrev pub store_buffering : Machine
store_buffering = small
    (record { nodes = 2; frames = 4; pages = 2; budget = 100 })
    policy.Replicate (entry 0 0 ∷ entry 1 1 ∷ []) [] (buffering_guest 0 4 ∷ buffering_guest 4 0 ∷ [])
