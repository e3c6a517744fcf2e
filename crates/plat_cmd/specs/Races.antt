-- what `race` writes
use Rattle.std.specs.Prelude.{ℕ, List, [], ◌∷◌, Option, Some, None, codes}
use Rattle.std.specs.Fmt.{decimal}
use Rattle.plat_base.specs.Canon.{Words}
use Rattle.plat_base.specs.Text.{text_bytes}
use Rattle.plat_base.specs.declared.items.Item.{Item}
use Rattle.plat_race.specs.Races.{first_race}
use Rattle.plat_race.specs.declared.pairs.Pair.{Pair}

-- the numbers of two items that race, or that none do
abbrev pub race_line : Option Pair → Words
race_line None = codes "none" ∷ []
race_line (Some p) = codes "pair" ∷ decimal p.first ∷ decimal p.second ∷ []

abbrev pub race_lines : Option Pair → List Words
race_lines race = (codes "platinum" ∷ codes "race" ∷ codes "1" ∷ []) ∷ race_line race ∷ []

unfoldable pub race_text : List Item → List ℕ
race_text items = text_bytes (race_lines (first_race items))
