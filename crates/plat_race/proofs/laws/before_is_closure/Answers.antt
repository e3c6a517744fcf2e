use Rattle.plat_race.proofs.Befores.{before-computed, computed-before}
use Rattle.plat_race.proofs.laws.before_is_closure.Goals as goal

pub returns : goal.returns
returns c = λ items i j. (before-computed items i j, computed-before items i j)
