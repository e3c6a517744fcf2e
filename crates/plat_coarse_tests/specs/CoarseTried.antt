-- the machines of this crate's tests: virtual pages 0 and 1 of space 0 lead to pages 0 and 1 of four words
use Rattle.std.specs.Prelude.{ℕ, List, [], ◌∷◌, Option, Some, None, codes}
use Rattle.plat_base.specs.Machine.{Machine, Program}
use Rattle.plat_base.specs.declared.guests.Instr.{Instr}
use Rattle.plat_base.specs.declared.guests.Label.{Label}
use Rattle.plat_base.specs.declared.policies.PolicyKind.{PolicyKind}
use Rattle.plat_samples.specs.Samples.{entry, guest, small}

-- the label spin, where it has a position
abbrev pub spin_label : Option ℕ → List Label
spin_label None = []
spin_label (Some at) = record { name = codes "spin"; at = at } ∷ []

abbrev pub labelled : List Instr → Option ℕ → Program
labelled code spin = guest code (spin_label spin)

-- three guests, of which the second and the third have the same instructions
abbrev pub trio_guests : (first others : List Instr) → List Program
trio_guests first others = labelled first None ∷ labelled others None ∷ labelled others None ∷ []

-- word 0 of page 0 starts with a given value
abbrev pub tried : (nodes frames : ℕ) → PolicyKind → (start : ℕ) → List Program → Machine
tried nodes frames policy start guests = small
    (record { nodes = nodes; frames = frames; pages = 2; budget = 100 })
    policy (entry 0 0 ∷ entry 1 1 ∷ []) (record { page = 0; word = 0; value = start } ∷ []) guests
