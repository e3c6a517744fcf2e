use Rattle.std.proofs.Common.{◌<◌, ℕ}
use Rattle.plat_base.specs.Seen.{machine}
use Rattle.plat_cost.specs.Certificates.{number_at, IsNumberBelow}
use Rattle.plat_cost.proofs.bounds.is_row_below.Given as goal

abbrev pub invariant-loop-x : goal.invariant-loop-x
invariant-loop-x l = (k : ℕ) → k < l.x → IsNumberBelow (machine l.cfg) l.actors (number_at (machine l.cfg) l.rest) l.i k
