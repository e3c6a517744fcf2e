-- the machine of this crate's tests: three nodes, two pages of four words
use Rattle.std.specs.Prelude.{[], ◌∷◌}
use Rattle.plat_base.specs.Machine.{Machine}
use Rattle.plat_base.specs.declared.policies.PolicyKind.TheVariants as policy
use Rattle.plat_samples.specs.Samples.{idle, small}

abbrev pub tried : Machine
tried = small (record { nodes = 3; frames = 2; pages = 2; budget = 1 }) policy.Place [] [] (idle ∷ idle ∷ idle ∷ [])
