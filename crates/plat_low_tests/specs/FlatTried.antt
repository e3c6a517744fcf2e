-- the machine of this crate's tests: one node, two pages of four words and two starting values
use Rattle.std.specs.Prelude.{[], ◌∷◌}
use Rattle.plat_base.specs.Machine.{Machine}
use Rattle.plat_base.specs.declared.policies.PolicyKind.TheVariants as policy
use Rattle.plat_samples.specs.Samples.{idle, small}

abbrev pub tried : Machine
tried = small
    (record { nodes = 1; frames = 2; pages = 2; budget = 1 })
    policy.Place [] (record { page = 0; word = 3; value = 9 } ∷ record { page = 1; word = 2; value = 7 } ∷ []) (idle ∷ [])
