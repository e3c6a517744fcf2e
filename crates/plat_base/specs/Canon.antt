-- the canonical text of a machine
use Rattle.std.specs.Prelude.{ℕ, ◌-◌, nat_le, Bool, List, [], ◌∷◌, ◌++◌, map, length, take, drop, slice_index_or, codes, Option, Some, None}
use Rattle.std.specs.List.{flat_map}
use Rattle.std.specs.Fmt.{decimal}
use Rattle.plat_base.specs.Text.{text_bytes}
use Rattle.plat_base.specs.Machine.{Machine, Program, Turns, robin, random, listed}
use Rattle.plat_base.specs.GuestRun.{no_label}
use Rattle.plat_base.specs.declared.policies.PolicyKind.{PolicyKind}
use Rattle.plat_base.specs.declared.policies.PolicyKind.TheVariants as policy
use Rattle.plat_base.specs.declared.configs.Distance.{Distance}
use Rattle.plat_base.specs.declared.configs.Entry.{Entry}
use Rattle.plat_base.specs.declared.configs.Init.{Init}
use Rattle.plat_base.specs.declared.guests.Label.{Label}
use Rattle.plat_base.specs.declared.guests.Instr.{Instr}
use Rattle.plat_base.specs.declared.guests.Instr.TheVariants as instr

-- a line's words
abbrev pub Words : Type 0
Words = List (List ℕ)

abbrev pub policy_words : PolicyKind → Words
policy_words policy.Place = codes "policy" ∷ codes "place" ∷ []
policy_words policy.Replicate = codes "policy" ∷ codes "replicate" ∷ []
policy_words (policy.Platinum t1 t2) = codes "policy" ∷ codes "platinum" ∷ decimal t1 ∷ decimal t2 ∷ []

abbrev pub schedule_words : Turns → Words
schedule_words robin = codes "schedule" ∷ codes "robin" ∷ []
schedule_words (random a b) = codes "schedule" ∷ codes "random" ∷ decimal a ∷ decimal b ∷ []
schedule_words (listed actors) = codes "schedule" ∷ codes "list" ∷ map decimal actors

abbrev pub distance_words : Distance → Words
distance_words d = codes "distance" ∷ decimal d.a ∷ decimal d.b ∷ decimal d.d ∷ []

abbrev pub entry_words : Entry → Words
entry_words e = codes "map" ∷ decimal e.space ∷ decimal e.vpage ∷ decimal e.page ∷ []

abbrev pub init_words : Init → Words
init_words i = codes "init" ∷ decimal i.page ∷ decimal i.word ∷ decimal i.value ∷ []

abbrev pub register_word : ℕ → List ℕ
register_word r = codes "r" ++ decimal r

abbrev pub index_words : Option ℕ → Words
index_words None = []
index_words (Some r) = register_word r ∷ []

-- an instruction's line; name gives the name of a label
abbrev pub instr_words : (ℕ → List ℕ) → Instr → Words
instr_words name (instr.Set d n) = codes "set" ∷ register_word d ∷ decimal n ∷ []
instr_words name (instr.Move d a) = codes "move" ∷ register_word d ∷ register_word a ∷ []
instr_words name (instr.Add d a b) = codes "add" ∷ register_word d ∷ register_word a ∷ register_word b ∷ []
instr_words name (instr.Sub d a b) = codes "sub" ∷ register_word d ∷ register_word a ∷ register_word b ∷ []
instr_words name (instr.Mul d a b) = codes "mul" ∷ register_word d ∷ register_word a ∷ register_word b ∷ []
instr_words name (instr.And d a b) = codes "and" ∷ register_word d ∷ register_word a ∷ register_word b ∷ []
instr_words name (instr.Shr d a b) = codes "shr" ∷ register_word d ∷ register_word a ∷ register_word b ∷ []
instr_words name (instr.Load d k i) = codes "load" ∷ register_word d ∷ decimal k ∷ index_words i
instr_words name (instr.Store s k i) = codes "store" ∷ register_word s ∷ decimal k ∷ index_words i
instr_words name (instr.Fadd d s k i) = codes "fadd" ∷ register_word d ∷ register_word s ∷ decimal k ∷ index_words i
instr_words name (instr.Switch s) = codes "switch" ∷ decimal s ∷ []
instr_words name (instr.Print s) = codes "print" ∷ register_word s ∷ []
instr_words name (instr.Jump l) = codes "jump" ∷ name l ∷ []
instr_words name (instr.Zero a l) = codes "zero" ∷ register_word a ∷ name l ∷ []
instr_words name (instr.Less a b l) = codes "less" ∷ register_word a ∷ register_word b ∷ name l ∷ []
instr_words name instr.Halt = codes "halt" ∷ []

abbrev pub label_words : Label → Words
label_words l = codes "label" ∷ l.name ∷ []

abbrev pub label_name : List Label → ℕ → List ℕ
label_name labels l = (slice_index_or labels l no_label).name

-- the lines of instructions from position i on, each label's line before that of the instruction at its position
abbrev pub with_labels : ℕ → List Words → List Label → List Words
with_labels i code [] = code
with_labels i code (l ∷ ls) = take (l.at - i) code ++ label_words l ∷ with_labels l.at (drop (l.at - i) code) ls

abbrev pub program_lines : Program → List Words
program_lines p =
    (codes "guest" ∷ decimal p.space ∷ []) ∷ with_labels 0 (map (instr_words (label_name p.labels)) p.code) p.labels

abbrev pub number_line : List ℕ → ℕ → Words
number_line key n = key ∷ decimal n ∷ []

-- the lines of the canonical text, as lists of words
abbrev pub canon : Machine → List Words
canon m =
    (codes "platinum" ∷ codes "1" ∷ [])
    ∷ number_line (codes "nodes") m.nodes
    ∷ number_line (codes "frames") m.frames
    ∷ number_line (codes "words") m.words
    ∷ number_line (codes "pages") m.pages
    ∷ policy_words m.policy
    ∷ number_line (codes "budget") m.budget
    ∷ schedule_words m.schedule
    ∷ (map distance_words m.distances ++ (map entry_words m.entries ++ (map init_words m.inits
    ++ (flat_map program_lines m.guests ++ (codes "end" ∷ []) ∷ []))))

unfoldable pub canon_text : Machine → List ℕ
canon_text m = text_bytes (canon m)

-- the most bytes that a machine text can have
abbrev pub most_bytes : ℕ
most_bytes = 1048576

-- the canonical text is within the limit of a machine text
unfoldable pub is_short : Machine → Bool
is_short m = nat_le (length (canon_text m)) most_bytes
