-- the machine of this crate's tests: two nodes and one page of four words
use Rattle.std.specs.Prelude.{[], ◌∷◌}
use Rattle.plat_base.specs.Machine.{Machine}
use Rattle.plat_base.specs.declared.policies.PolicyKind.TheVariants as policy
use Rattle.plat_samples.specs.Samples.{idle, small}

abbrev pub tried : Machine
tried = small (record { nodes = 2; frames = 2; pages = 1; budget = 8 }) policy.Replicate [] [] (idle ∷ idle ∷ [])
