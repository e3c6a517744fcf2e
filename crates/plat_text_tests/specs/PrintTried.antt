-- the machines of the printer's tests: one frame on each module, one page of four words, budget 10
use Rattle.std.specs.Prelude.{ℕ, List, [], ◌∷◌, codes}
use Rattle.plat_base.specs.Machine.{Machine, Program, Turns}
use Rattle.plat_base.specs.declared.configs.Distance.{Distance}
use Rattle.plat_base.specs.declared.configs.Entry.{Entry}
use Rattle.plat_base.specs.declared.configs.Init.{Init}
use Rattle.plat_base.specs.declared.guests.Label.{Label}
use Rattle.plat_base.specs.declared.policies.PolicyKind.{PolicyKind}

abbrev pub three_labels : (a b c : ℕ) → List Label
three_labels a b c =
    record { name = codes "a"; at = a } ∷ record { name = codes "b_2"; at = b } ∷ record { name = codes "c"; at = c } ∷ []

abbrev pub tried : (nodes : ℕ) → PolicyKind → Turns → List Distance → List Entry → List Init → List Program → Machine
tried nodes policy schedule distances entries inits guests = record {
  nodes = nodes;
  frames = 1;
  words = 4;
  pages = 1;
  policy = policy;
  budget = 10;
  schedule = schedule;
  distances = distances;
  entries = entries;
  inits = inits;
  guests = guests;
}
