-- lists of processors that may make their turns one after another
use Rattle.std.specs.Prelude.{◌≡◌, ℕ, true, List, [], ◌∷◌}
use Rattle.plat_base.specs.Verdicts.{Answer}
use Rattle.plat_base.specs.Machine.{Machine}
use Rattle.plat_base.specs.Ends.{is_live}
use Rattle.plat_base.specs.Coarse.{Coarse}
use Rattle.plat_base.specs.Turns.{turn}

-- each of these processors is live when its turn comes
abbrev pub AreLive : Machine → Answer → Coarse → List ℕ → Type 0
AreLive m answer s [] = Unit {0}
AreLive m answer s (q ∷ qs) = (is_live s.ends q ≡ true) × AreLive m answer (turn m answer s q) qs
