-- the reading of a whole machine text over its rows: the machine, or the first fault
use Rattle.std.specs.Prelude.{ℕ, zero, suc, ◌+◌, ◌==◌, nat_lt, nat_le, Bool, ◌||◌, if◌then◌else◌, List, [], ◌∷◌, ◌++◌, length, Result, Ok}
use Rattle.std.specs.Prelude.{◌-◌, Err, bytes_eq, codes}
use Rattle.plat_grammar.specs.Lines.{number_of}
use Rattle.plat_grammar.specs.Forms.{◌>>=◌, Row, Rest, Stop, rows_of, refused, missing, row_at, word_at, first_word, read_as}
use Rattle.plat_grammar.specs.Forms.{one, exactly, number_in, any_number, number, below, nothing, ◌·◌, made, choice, listed, once, line_at}
use Rattle.plat_grammar.specs.Forms.{all_with, over}
use Rattle.plat_grammar.specs.Drafts.{Draft, name_of, instruction_line, code_from}
use Rattle.plat_base.specs.Machine.{Machine, Program, Turns, robin, random, listed as turns_listed, is_page_size, same_nodes, same_place}
use Rattle.plat_base.specs.Machine.{same_word, same_name}
use Rattle.plat_base.specs.Canon.{is_short, most_bytes}
use Rattle.plat_base.specs.declared.faults.Refused.{Refused}
use Rattle.plat_base.specs.declared.faults.Why.{Why}
use Rattle.plat_base.specs.declared.faults.Why.TheVariants as why
use Rattle.plat_base.specs.declared.policies.PolicyKind.{PolicyKind}
use Rattle.plat_base.specs.declared.policies.PolicyKind.TheVariants as policy
use Rattle.plat_base.specs.declared.configs.Distance.{Distance}
use Rattle.plat_base.specs.declared.configs.Entry.{Entry}
use Rattle.plat_base.specs.declared.configs.Init.{Init}
use Rattle.plat_base.specs.declared.guests.Label.{Label}
use Rattle.plat_base.specs.declared.limits.TheConstants.{MODULES, FRAMES, PAGES, BUDGET, LABELS, LISTED, SPACES, VIRTUAL_PAGES}

-- ---- the lines before the guests

-- a line of one number
abbrev pub number_line : ℕ → ℕ → Row → Result ℕ Refused
number_line low high = made (λ x. x.0) (number low high · nothing)

abbrev pub page_size : ℕ → Result ℕ Why
page_size n = if is_page_size n then Ok n else Err why.PageWords

abbrev pub size_of : List ℕ → Result ℕ Why
size_of word = number_of word >>= page_size

abbrev pub size_line : Row → Result ℕ Refused
size_line = made (λ x. x.0) (one size_of · nothing)

abbrev pub version_line : Row → Result (Unit {0}) Refused
version_line = made (λ x. x.0) (one (exactly (codes "1")) · nothing)

abbrev pub platinum_line : Row → Result PolicyKind Refused
platinum_line = made (λ x. policy.Platinum x.0 x.1.0) (number 0 1000000 · number 64 1000000 · nothing)

abbrev pub policies : List (List ℕ × (Row → Result PolicyKind Refused))
policies =
    (codes "place", made (λ _. policy.Place) nothing)
    ∷ (codes "replicate", made (λ _. policy.Replicate) nothing)
    ∷ (codes "platinum", platinum_line)
    ∷ []

abbrev pub policy_line : Row → Result PolicyKind Refused
policy_line = choice policies why.UnknownPolicy

abbrev pub random_line : Row → Result Turns Refused
random_line = made (λ x. random x.0 x.1.0) (any_number · any_number · nothing)

-- the actors of a schedule's list are the nodes and one more
abbrev pub schedules : ℕ → List (List ℕ × (Row → Result Turns Refused))
schedules nodes =
    (codes "robin", made (λ _. robin) nothing)
    ∷ (codes "random", random_line)
    ∷ (codes "list", made turns_listed (listed (number_in 0 nodes) LISTED))
    ∷ []

abbrev pub schedule_line : ℕ → Row → Result Turns Refused
schedule_line nodes = choice (schedules nodes) why.UnknownSchedule

pub record Header : Type 0 where
  pub nodes : ℕ
  pub frames : ℕ
  pub words : ℕ
  pub pages : ℕ
  pub policy : PolicyKind
  pub budget : ℕ
  pub schedule : Turns

unfoldable pub header_at : Rest → Result (Header × Rest) Refused
header_at rest = do
  version ← line_at (codes "platinum") version_line rest
  nodes ← line_at (codes "nodes") (number_line 1 MODULES) version.1
  frames ← line_at (codes "frames") (number_line 1 FRAMES) nodes.1
  words ← line_at (codes "words") size_line frames.1
  pages ← line_at (codes "pages") (number_line 1 PAGES) words.1
  policy ← line_at (codes "policy") policy_line pages.1
  budget ← line_at (codes "budget") (number_line 1 BUDGET) policy.1
  schedule ← line_at (codes "schedule") (schedule_line nodes.0) budget.1
  Ok (
    record {
      nodes = nodes.0;
      frames = frames.0;
      words = words.0;
      pages = pages.0;
      policy = policy.0;
      budget = budget.0;
      schedule = schedule.0;
    },
    schedule.1,
  )

abbrev pub other_than : ℕ → ℕ → Result ℕ Why
other_than a b = if b == a then Err why.SelfDistance else Ok b

-- a node that is not this one
abbrev pub other_node : ℕ → ℕ → List ℕ → Result ℕ Why
other_node nodes a word = number_of word >>= λ n. (if nat_lt n nodes then other_than a n else Err why.OutOfRange)

unfoldable pub distance_line : ℕ → Row → Result Distance Refused
distance_line nodes row = do
  a ← below nodes row
  b ← one (other_node nodes a.0) a.1
  d ← number 1 1000 b.1
  end ← nothing d.1
  Ok (record { a = a.0; b = b.0; d = d.0 })

unfoldable pub entry_line : ℕ → Row → Result Entry Refused
entry_line pages =
    made (λ x. record { space = x.0; vpage = x.1.0; page = x.1.1.0 })
    (number 0 (SPACES - 1) · number 0 (VIRTUAL_PAGES - 1) · below pages · nothing)

unfoldable pub init_line : ℕ → ℕ → Row → Result Init Refused
init_line pages words = made (λ x. record { page = x.0; word = x.1.0; value = x.1.1.0 }) (below pages · below words · any_number · nothing)

unfoldable pub distances_at : ℕ → Rest → Result (List Distance × Rest) Refused
distances_at nodes = all_with (codes "distance") same_nodes (distance_line nodes)

unfoldable pub entries_at : ℕ → Rest → Result (List Entry × Rest) Refused
entries_at pages = all_with (codes "map") same_place (entry_line pages)

unfoldable pub inits_at : ℕ → ℕ → Rest → Result (List Init × Rest) Refused
inits_at pages words = all_with (codes "init") same_word (init_line pages words)

-- ---- guests

-- a label's name after so many
abbrev pub name_after : ℕ → List ℕ → Result (List ℕ) Why
name_after count word = if nat_le LABELS count then Err why.TooMany else name_of word

-- the label at this position, after these
unfoldable pub label_line : ℕ → List Label → Row → Result Label Refused
label_line at labels = once same_name labels (made (λ x. record { name = x.0; at = at }) (one (name_after (length labels)) · nothing))

-- a line of a guest that has these instructions and labels: one more of either
unfoldable pub body_line : List Draft → List Label → Row → Result (List Draft × List Label) Refused
body_line drafts labels row = word_at row >>= λ w.
    (if bytes_eq w.0.bytes (codes "label")
    then (label_line (length drafts) labels w.1 >>= λ l. Ok (drafts, labels ++ l ∷ []))
    else (instruction_line (length drafts) row >>= λ d. Ok (drafts ++ d ∷ [], labels)))

-- the first word of the line after a guest
abbrev pub ends_guest : List ℕ → Bool
ends_guest word = bytes_eq word (codes "guest") || bytes_eq word (codes "end")

-- the lines of a guest up to the next `guest` or `end`; what stands before them was seen
unfoldable pub body_from : Stop → List Draft → List Label → List Row → Result ((List Draft × List Label) × Rest) Refused
body_from stop drafts labels [] = Err (missing stop)
body_from stop drafts labels (row ∷ rows) = first_word row >>= λ w.
    (if ends_guest w.bytes
    then Ok ((drafts, labels), record { rows = row ∷ rows; stop = stop })
    else (body_line drafts labels row >>= λ b. body_from stop b.0 b.1 rows))

abbrev pub body_at : Rest → Result ((List Draft × List Label) × Rest) Refused
body_at rest = body_from rest.stop [] [] rest.rows

unfoldable pub guest_at : Rest → Result (Program × Rest) Refused
guest_at rest = do
  space ← line_at (codes "guest") (number_line 0 (SPACES - 1)) rest
  body ← body_at space.1
  code ← code_from body.0.1 [] body.0.0
  Ok (record { space = space.0; code = code; labels = body.0.1 }, body.1)

-- so many guests; what stands before them was seen
unfoldable pub guests_from : ℕ → List Program → Rest → Result (List Program × Rest) Refused
guests_from zero seen rest = Ok (seen, rest)
guests_from (suc count) seen rest = guest_at rest >>= λ g. guests_from count (seen ++ g.0 ∷ []) g.1

-- ---- the whole text

abbrev pub machine_with : Header → List Distance → List Entry → List Init → List Program → Machine
machine_with header distances entries inits guests = record {
  nodes = header.nodes;
  frames = header.frames;
  words = header.words;
  pages = header.pages;
  policy = header.policy;
  budget = header.budget;
  schedule = header.schedule;
  distances = distances;
  entries = entries;
  inits = inits;
  guests = guests;
}

-- the line `end`, which stands only where the canonical text is short; the number of the line after it
unfoldable pub end_line : Bool → Rest → Result (ℕ × Rest) Refused
end_line short rest = row_at rest >>= λ r. word_at r.0 >>= λ w. read_as r.0.line w.0 (exactly (codes "end") w.0.bytes) >>= λ _.
    (if short then (nothing w.1 >>= λ _. Ok (r.0.line + 1, r.1)) else Err (refused r.0.line w.0.column why.TooMany))

-- a machine text up to the line `end`
unfoldable pub front_at : Rest → Result (Machine × Rest) Refused
front_at rest = do
  header ← header_at rest
  distances ← distances_at header.0.nodes header.1
  entries ← entries_at header.0.pages distances.1
  inits ← inits_at header.0.pages header.0.words entries.1
  guests ← guests_from header.0.nodes [] inits.1
  Ok (machine_with header.0 distances.0 entries.0 inits.0 guests.0, guests.1)

-- a machine text from here on: the machine, the number of the line after its last, and what comes after it
unfoldable pub machine_at : Rest → Result ((Machine × ℕ) × Rest) Refused
machine_at rest = do
  front ← front_at rest
  next ← end_line (is_short front.0) front.1
  Ok ((front.0, next.0), next.1)

-- the machine of a whole machine text
unfoldable pub text_at : List ℕ → Result Machine Refused
text_at bytes =
    if nat_lt most_bytes (length bytes)
    then Err (refused 0 0 why.TooLong)
    else (machine_at (rows_of 1 bytes) >>= λ m. over m.1 >>= λ _. Ok m.0.0)

-- the machine of a machine text that begins with this line inside a longer text, and the number of the line after it
unfoldable pub text_from : ℕ → List ℕ → Result (Machine × ℕ) Refused
text_from first bytes = machine_at (rows_of first bytes) >>= λ m. Ok m.0
