-- small machines for tests: they run round robin, their nodes are equally far from each other, and a page has four words
use Rattle.std.specs.Prelude.{ℕ, List, [], ◌∷◌, None, codes}
use Rattle.plat_base.specs.Machine.{Machine, Program, robin}
use Rattle.plat_base.specs.declared.configs.Entry.{Entry}
use Rattle.plat_base.specs.declared.configs.Init.{Init}
use Rattle.plat_base.specs.declared.guests.Instr.{Instr}
use Rattle.plat_base.specs.declared.guests.Instr.TheVariants as instr
use Rattle.plat_base.specs.declared.guests.Label.{Label}
use Rattle.plat_base.specs.declared.policies.PolicyKind.{PolicyKind}
use Rattle.plat_base.specs.declared.policies.PolicyKind.TheVariants as policy
use Rattle.plat_samples.specs.declared.machines.Sizes.{Sizes}

-- ---- guests of space 0

abbrev pub guest : List Instr → List Label → Program
guest code labels = record { space = 0; code = code; labels = labels }

abbrev pub idle : Program
idle = guest [] []

-- it stores 7 and then 8 at address 0
abbrev pub writing : Program
writing = guest (instr.Set 1 7 ∷ instr.Store 1 0 None ∷ instr.Set 1 8 ∷ instr.Store 1 0 None ∷ instr.Halt ∷ []) []

-- it loads from address 0, and prints what it found
abbrev pub reading : Program
reading = guest (instr.Load 2 0 None ∷ instr.Print 2 ∷ instr.Halt ∷ []) []

-- it adds 1 to word 0, a hundred times
abbrev pub adding_guest : Program
adding_guest = guest
    (instr.Set 1 1 ∷ instr.Set 2 100 ∷ instr.Fadd 4 1 0 None ∷ instr.Print 4 ∷ instr.Add 3 3 1 ∷ instr.Less 3 2 0 ∷ instr.Halt ∷ [])
    (record { name = codes "again"; at = 2 } ∷ [])

-- ---- machines

-- an entry of space 0
abbrev pub entry : (vpage page : ℕ) → Entry
entry vpage page = record { space = 0; vpage = vpage; page = page }

abbrev pub small : Sizes → PolicyKind → List Entry → List Init → List Program → Machine
small sizes policy entries inits guests = record {
  nodes = sizes.nodes;
  frames = sizes.frames;
  words = 4;
  pages = sizes.pages;
  policy = policy;
  budget = sizes.budget;
  schedule = robin;
  distances = [];
  entries = entries;
  inits = inits;
  guests = guests;
}

-- virtual page 0 leads to the one page, whose word 0 starts with a given value
abbrev pub two_nodes : PolicyKind → (budget start : ℕ) → List Program → Machine
two_nodes policy budget start guests = small
    (record { nodes = 2; frames = 4; pages = 1; budget = budget })
    policy (entry 0 0 ∷ []) (record { page = 0; word = 0; value = start } ∷ []) guests

-- one guest writes the one page, and one reads it
abbrev pub sharing : PolicyKind → Machine
sharing policy = small
    (record { nodes = 2; frames = 4; pages = 1; budget = 100 })
    policy (entry 0 0 ∷ []) [] (writing ∷ reading ∷ [])

abbrev pub adding : Machine
adding = two_nodes policy.Place 1000 0 (adding_guest ∷ adding_guest ∷ [])
