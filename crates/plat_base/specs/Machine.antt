-- a machine as its definitions see it: plain lists, and the limits that a Config keeps
use Rattle.std.specs.Prelude.{ℕ, Bool, true, not, ◌&&◌, ◌==◌, nat_le, nat_lt, List, [], ◌∷◌, length, Option, Some, None}
use Rattle.std.specs.List.{list_all, list_any}
use Rattle.plat_base.specs.Roomy.{Roomy}
use Rattle.plat_base.specs.Labels.{is_label_name}
use Rattle.plat_base.specs.declared.limits.TheConstants.{MODULES, FRAMES, PAGES, SPACES, VIRTUAL_PAGES, REGISTERS, BUDGET, INSTRUCTIONS}
use Rattle.plat_base.specs.declared.limits.TheConstants.{LABELS, LISTED}
use Rattle.plat_base.specs.declared.policies.PolicyKind.{PolicyKind}
use Rattle.plat_base.specs.declared.policies.PolicyKind.TheVariants as policy
use Rattle.plat_base.specs.declared.configs.Plan.{Plan}
use Rattle.plat_base.specs.declared.configs.Plan.TheVariants as plan
use Rattle.plat_base.specs.declared.configs.Distance.{Distance}
use Rattle.plat_base.specs.declared.configs.Entry.{Entry}
use Rattle.plat_base.specs.declared.configs.Init.{Init}
use Rattle.plat_base.specs.declared.guests.Instr.{Instr}
use Rattle.plat_base.specs.declared.guests.Instr.TheVariants.{Set, Move, Add, Sub, Mul, And, Shr, Load, Store, Fadd, Switch, Print, Jump}
use Rattle.plat_base.specs.declared.guests.Instr.TheVariants.{Zero, Less, Halt}
use Rattle.plat_base.specs.declared.guests.Label.{Label}
use Rattle.plat_base.specs.declared.guests.GuestText.{GuestText}
use lib.Pointwise.{pointwise}

-- the schedule of a simulated run
pub data Turns : Type 0 where
  robin : Turns
  random : (a b : ℕ) → Turns
  listed : (actors : List ℕ) → Turns

-- a guest: the space it starts in, its instructions and its labels
pub record Program : Type 0 where
  pub space : ℕ
  pub code : List Instr
  pub labels : List Label

pub record Machine : Type 0 where
  pub nodes : ℕ
  pub frames : ℕ
  pub words : ℕ
  pub pages : ℕ
  pub policy : PolicyKind
  pub budget : ℕ
  pub schedule : Turns
  pub distances : List Distance
  pub entries : List Entry
  pub inits : List Init
  pub guests : List Program

abbrev pub turns_of : Plan → Turns
turns_of plan.Robin = robin
turns_of (plan.Random a b) = random a b
turns_of (plan.Listed actors) = listed actors.items

abbrev pub program_seen : GuestText → Program
program_seen g = record { space = g.space; code = g.code.items; labels = g.labels.items }

abbrev pub programs_seen : List GuestText → List Program
programs_seen [] = []
programs_seen (g ∷ gs) = program_seen g ∷ programs_seen gs

-- the machine that a Config's fields describe
abbrev pub machine_of :
    (nodes frames words pages : ℕ) (policy : PolicyKind) (budget : ℕ) (schedule : Plan) (distances : Roomy Distance)
    (entries : Roomy Entry) (inits : Roomy Init) (guests : Roomy GuestText) → Machine
machine_of nodes frames words pages policy budget schedule distances entries inits guests = record {
  nodes = nodes;
  frames = frames;
  words = words;
  pages = pages;
  policy = policy;
  budget = budget;
  schedule = turns_of schedule;
  distances = distances.items;
  entries = entries.items;
  inits = inits.items;
  guests = programs_seen guests.items;
}

-- ---- limits

abbrev pub is_within : ℕ → ℕ → ℕ → Bool
is_within low high n = nat_le low n && nat_le n high

-- a number of a text fits 32 bits
abbrev pub is_number : ℕ → Bool
is_number n = nat_lt n 4294967296

abbrev pub is_page_size : ℕ → Bool
is_page_size n = list_any (λ size. size == n) (4 ∷ 8 ∷ 16 ∷ 32 ∷ 64 ∷ [])

abbrev pub is_policy : PolicyKind → Bool
is_policy policy.Place = true
is_policy policy.Replicate = true
is_policy (policy.Platinum t1 t2) = nat_le t1 1000000 && is_within 64 1000000 t2

abbrev pub is_schedule : ℕ → Turns → Bool
is_schedule nodes robin = true
is_schedule nodes (random a b) = is_number a && is_number b
is_schedule nodes (listed actors) = is_within 1 LISTED (length actors) && list_all (λ a. nat_le a nodes) actors

abbrev pub is_distance : ℕ → Distance → Bool
is_distance nodes d = nat_lt d.a nodes && nat_lt d.b nodes && not (d.a == d.b) && is_within 1 1000 d.d

abbrev pub is_entry : ℕ → Entry → Bool
is_entry pages e = nat_lt e.space SPACES && nat_lt e.vpage VIRTUAL_PAGES && nat_lt e.page pages

abbrev pub is_init : ℕ → ℕ → Init → Bool
is_init pages words i = nat_lt i.page pages && nat_lt i.word words && is_number i.value

abbrev pub is_register : ℕ → Bool
is_register r = nat_lt r REGISTERS

abbrev pub is_index : Option ℕ → Bool
is_index None = true
is_index (Some r) = is_register r

-- an instruction of a guest with so many labels
abbrev pub is_instr : ℕ → Instr → Bool
is_instr labels (Set d n) = is_register d && is_number n
is_instr labels (Move d a) = is_register d && is_register a
is_instr labels (Add d a b) = is_register d && is_register a && is_register b
is_instr labels (Sub d a b) = is_register d && is_register a && is_register b
is_instr labels (Mul d a b) = is_register d && is_register a && is_register b
is_instr labels (And d a b) = is_register d && is_register a && is_register b
is_instr labels (Shr d a b) = is_register d && is_register a && is_register b
is_instr labels (Load d k i) = is_register d && is_number k && is_index i
is_instr labels (Store s k i) = is_register s && is_number k && is_index i
is_instr labels (Fadd d s k i) = is_register d && is_register s && is_number k && is_index i
is_instr labels (Switch s) = nat_lt s SPACES
is_instr labels (Print s) = is_register s
is_instr labels (Jump l) = nat_lt l labels
is_instr labels (Zero a l) = is_register a && nat_lt l labels
is_instr labels (Less a b l) = is_register a && is_register b && nat_lt l labels
is_instr labels Halt = true

-- no two of them are the same
abbrev pub all_differ : {T : Type 0} → (T → T → Bool) → List T → Bool
all_differ same [] = true
all_differ same (x ∷ xs) = not (list_any (same x) xs) && all_differ same xs

abbrev pub same_nodes : Distance → Distance → Bool
same_nodes a b = a.a == b.a && a.b == b.b

abbrev pub same_place : Entry → Entry → Bool
same_place a b = a.space == b.space && a.vpage == b.vpage

abbrev pub same_word : Init → Init → Bool
same_word a b = a.page == b.page && a.word == b.word

abbrev pub same_name : Label → Label → Bool
same_name a b = pointwise (λ x y. x == y) a.name b.name

-- the labels stand in the order of their positions, none past the last instruction
abbrev pub labels_rise : ℕ → ℕ → List Label → Bool
labels_rise low high [] = true
labels_rise low high (l ∷ ls) = is_within low high l.at && labels_rise l.at high ls

-- a label's name is spelled as a name
abbrev pub is_spelled : Label → Bool
is_spelled l = is_label_name l.name

abbrev pub is_program : Program → Bool
is_program p =
    nat_lt p.space SPACES && nat_le (length p.code) INSTRUCTIONS && nat_le (length p.labels) LABELS
    && list_all (is_instr (length p.labels)) p.code
    && labels_rise 0 (length p.code) p.labels && list_all is_spelled p.labels && all_differ same_name p.labels

abbrev pub limits : Machine → List Bool
limits m =
    is_within 1 MODULES m.nodes
    ∷ is_within 1 FRAMES m.frames
    ∷ is_page_size m.words
    ∷ is_within 1 PAGES m.pages
    ∷ is_policy m.policy
    ∷ is_within 1 BUDGET m.budget
    ∷ is_schedule m.nodes m.schedule
    ∷ list_all (is_distance m.nodes) m.distances
    ∷ all_differ same_nodes m.distances
    ∷ list_all (is_entry m.pages) m.entries
    ∷ all_differ same_place m.entries
    ∷ list_all (is_init m.pages m.words) m.inits
    ∷ all_differ same_word m.inits
    ∷ (length m.guests == m.nodes)
    ∷ list_all is_program m.guests
    ∷ []

-- a machine within the limits of a machine text
abbrev pub is_machine : Machine → Bool
is_machine m = list_all (λ b. b) (limits m)
