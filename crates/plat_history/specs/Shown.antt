-- what contracts see of what is read
use Rattle.std.specs.Prelude.{ℕ, ◌==◌, List, [], Option, Some, None}
use Rattle.std.specs.List.{slice_split}
use Rattle.std.specs.Borrow.{Bor}
use Rattle.plat_base.specs.Seen.{machine}
use Rattle.plat_base.specs.declared.configs.Config.{Config}
use Rattle.plat_base.specs.declared.items.Item.{Item}
use Rattle.plat_base.specs.declared.endings.Ended.{Ended}
use Rattle.plat_grammar.specs.HistoryCanon.{History as HistorySeen, comma}
use Rattle.plat_history.specs.declared.histories.History.{History}

-- two parts of a word
abbrev pub parts : Bor (List ℕ) × Bor (List ℕ) → List ℕ × List ℕ
parts p = (p.0.now, p.1.now)

-- the parts of what is left of a list of frames
abbrev pub parts_left : Option (Bor (List ℕ)) → List (List ℕ)
parts_left None = []
parts_left (Some list) = slice_split (λ b. b == comma) list.now

-- the history of a machine with these items and ends
abbrev pub history : Config → List Item → List Ended → HistorySeen
history cfg items ends = record { machine = machine cfg; items = items; ends = ends }

-- the history that was read
abbrev pub seen : History → HistorySeen
seen h = history h.cfg h.items.items h.ends.items
