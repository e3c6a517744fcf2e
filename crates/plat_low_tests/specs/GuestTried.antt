-- the machine of this crate's tests: one node, whose guest starts in space 0; page 0 is mapped at virtual page 0 of spaces
-- 0 and 1; the labels a, b and c stand at three positions
use Rattle.std.specs.Prelude.{ℕ, List, [], ◌∷◌, codes}
use Rattle.plat_base.specs.Machine.{Machine}
use Rattle.plat_base.specs.declared.policies.PolicyKind.TheVariants as policy
use Rattle.plat_base.specs.declared.guests.Instr.{Instr}
use Rattle.plat_base.specs.declared.guests.Label.{Label}
use Rattle.plat_samples.specs.Samples.{entry, guest, small}

abbrev pub three_labels : (a b c : ℕ) → List Label
three_labels a b c =
    record { name = codes "a"; at = a } ∷ record { name = codes "b"; at = b } ∷ record { name = codes "c"; at = c } ∷ []

abbrev pub tried : List Instr → (a b c : ℕ) → Machine
tried code a b c = small
    (record { nodes = 1; frames = 1; pages = 1; budget = 100 })
    policy.Place (entry 0 0 ∷ record { space = 1; vpage = 0; page = 0 } ∷ []) [] (guest code (three_labels a b c) ∷ [])
