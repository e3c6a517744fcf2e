-- the parts of a canonical text that are printed one after another, in words that tactics see only as a whole
use Rattle.std.specs.Prelude.{ℕ, List, [], ◌∷◌, ◌++◌, codes, map}
use Rattle.std.specs.List.{flat_map}
use Rattle.plat_base.specs.Canon.{Words, number_line, policy_words, schedule_words, distance_words, entry_words, init_words, program_lines}
use Rattle.plat_base.specs.Machine.{program_seen, turns_of}
use Rattle.plat_base.specs.declared.configs.Config.{Config}
use Rattle.plat_base.specs.declared.configs.Distance.{Distance}
use Rattle.plat_base.specs.declared.configs.Entry.{Entry}
use Rattle.plat_base.specs.declared.configs.Init.{Init}
use Rattle.plat_base.specs.declared.configs.Plan.{Plan}
use Rattle.plat_base.specs.declared.guests.GuestText.{GuestText}
use Rattle.plat_base.specs.declared.policies.PolicyKind.{PolicyKind}
use Rattle.plat_machine.specs.declared.whole.Front.{Front}

unfoldable pub policy_line : PolicyKind → Words
policy_line policy = policy_words policy

unfoldable pub schedule_line : Plan → Words
schedule_line plan = schedule_words (turns_of plan)

unfoldable pub size_lines : (nodes frames words pages : ℕ) → List Words
size_lines nodes frames words pages =
    (codes "platinum" ∷ codes "1" ∷ [])
    ∷ number_line (codes "nodes") nodes
    ∷ number_line (codes "frames") frames
    ∷ number_line (codes "words") words
    ∷ number_line (codes "pages") pages
    ∷ []

unfoldable pub setting_lines : PolicyKind → (budget : ℕ) → Plan → List Words
setting_lines policy budget plan = policy_line policy ∷ number_line (codes "budget") budget ∷ schedule_line plan ∷ []

-- the lines before the distances
abbrev pub head_lines : Config → List Words
head_lines cfg = size_lines cfg.nodes cfg.frames cfg.words cfg.pages ++ setting_lines cfg.policy cfg.budget cfg.schedule

unfoldable pub guest_lines : GuestText → List Words
guest_lines guest = program_lines (program_seen guest)

-- the lines from the distances on
abbrev pub body_lines : List Distance → List Entry → List Init → List GuestText → List Words
body_lines distances entries inits guests =
    map distance_words distances ++ (map entry_words entries
    ++ (map init_words inits ++ (flat_map guest_lines guests ++ (codes "end" ∷ []) ∷ [])))

abbrev pub machine_lines : Config → List Words
machine_lines cfg = head_lines cfg ++ body_lines cfg.distances.items cfg.entries.items cfg.inits.items cfg.guests.items

-- the lines of what was read before the line `end`, and that line
abbrev pub front_lines : Front → List Words
front_lines f =
    size_lines f.header.nodes f.header.frames f.header.words f.header.pages
    ++ (setting_lines f.header.policy f.header.budget f.header.schedule
    ++ body_lines f.distances.items f.entries.items f.inits.items f.guests.items)
