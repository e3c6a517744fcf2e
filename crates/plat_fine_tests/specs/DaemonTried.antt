-- the machine of this crate's tests: three nodes, three pages and six entries, whose guests have no instruction
use Rattle.std.specs.Prelude.{List, [], ◌∷◌}
use Rattle.plat_base.specs.Machine.{Machine, robin}
use Rattle.plat_base.specs.declared.configs.Entry.{Entry}
use Rattle.plat_base.specs.declared.policies.PolicyKind.TheVariants as policy
use Rattle.plat_samples.specs.Samples.{entry, idle}

abbrev pub six_entries : List Entry
six_entries =
    entry 2 2 ∷ entry 9 2 ∷ entry 4 0 ∷ entry 0 1 ∷ entry 63 0 ∷ entry 1 2 ∷ []

abbrev pub three_nodes : Machine
three_nodes = record {
  nodes = 3;
  frames = 3;
  words = 8;
  pages = 3;
  policy = policy.Platinum 25 64;
  budget = 73;
  schedule = robin;
  distances = [];
  entries = six_entries;
  inits = [];
  guests = idle ∷ idle ∷ idle ∷ [];
}
