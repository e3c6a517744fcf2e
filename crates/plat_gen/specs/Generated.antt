-- the machine of a generated text: eight guests that step through pages at random and count on one shared word
use Rattle.std.specs.Prelude.{ℕ, ◌+◌, ◌*◌, ◌%◌, List, [], ◌∷◌, map, codes, Some, None}
use Rattle.plat_base.specs.Machine.{Machine, Program, robin}
use Rattle.plat_base.specs.GuestRun.{word_modulus}
use Rattle.plat_base.specs.Pages.{numbers}
use Rattle.plat_base.specs.declared.configs.Entry.{Entry}
use Rattle.plat_base.specs.declared.guests.Instr.{Instr}
use Rattle.plat_base.specs.declared.guests.Instr.TheVariants.{Set, Add, Mul, And, Shr, Load, Store, Fadd, Less, Halt}
use Rattle.plat_base.specs.declared.guests.Label.{Label}
use Rattle.plat_base.specs.declared.policies.PolicyKind.TheVariants.{Platinum}

-- the number that guest q of the n-th text starts from
abbrev pub seed : (n q : ℕ) → ℕ
seed n q = (n + 7919 * q) % word_modulus

-- map 0 i i
abbrev pub same_page : ℕ → Entry
same_page i = record { space = 0; vpage = i; page = i }

-- the label loop, before the instruction at position 7
abbrev pub loop : Label
loop = record { name = codes "loop"; at = 7 }

abbrev pub guest_code : ℕ → List Instr
guest_code x =
    Set 0 x
    ∷ Set 1 1
    ∷ Set 2 4000
    ∷ Set 3 1664525
    ∷ Set 4 1013904223
    ∷ Set 5 511
    ∷ Set 6 16
    ∷ Mul 0 0 3
    ∷ Add 0 0 4
    ∷ Shr 7 0 6
    ∷ And 7 7 5
    ∷ Load 8 0 (Some 7)
    ∷ Add 8 8 1
    ∷ Store 8 0 (Some 7)
    ∷ Fadd 9 1 512 None
    ∷ Add 10 10 1
    ∷ Less 10 2 0
    ∷ Halt
    ∷ []

-- the guest that starts from x
abbrev pub guest : ℕ → Program
guest x = record { space = 0; code = guest_code x; labels = loop ∷ [] }

-- the machine of the n-th generated text
unfoldable pub generated : ℕ → Machine
generated n = record {
  nodes = 8;
  frames = 40;
  words = 16;
  pages = 33;
  policy = Platinum 200 1000;
  budget = 41000;
  schedule = robin;
  distances = [];
  entries = map same_page (numbers 33);
  inits = [];
  guests = map (λ q. guest (seed n q)) (numbers 8);
}
