-- the machine of this crate's tests: two nodes with one frame each, and a budget of ten turns; virtual pages 0 and 1 of space 0
-- lead to pages 0 and 1 of four words; each guest has one label
use Rattle.std.specs.Prelude.{ℕ, List, [], ◌∷◌, codes}
use Rattle.plat_base.specs.Machine.{Machine, Program}
use Rattle.plat_base.specs.declared.guests.Instr.{Instr}
use Rattle.plat_base.specs.declared.policies.PolicyKind.TheVariants as policy
use Rattle.plat_samples.specs.Samples.{entry, guest, small}

abbrev pub labelled : List Instr → ℕ → Program
labelled code at = guest code (record { name = codes "on"; at = at } ∷ [])

abbrev pub tried : List Program → Machine
tried guests = small (record { nodes = 2; frames = 1; pages = 2; budget = 10 }) policy.Place (entry 0 0 ∷ entry 1 1 ∷ []) [] guests
