-- the words of the active spaces at the start
use Rattle.std.specs.Prelude.{ℕ, ◌+◌, List, map}
use Rattle.plat_base.specs.Machine.{Machine}
use Rattle.plat_base.specs.Pages.{numbers, program_of}

-- of the first n processors: the space that its guest starts in, plus 1
abbrev pub first_actives : Machine → ℕ → List ℕ
first_actives m n = map (λ q. (program_of m q).space + 1) (numbers n)
