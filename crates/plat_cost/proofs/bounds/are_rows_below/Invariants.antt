use Rattle.std.proofs.Common.{◌<◌, ℕ}
use Rattle.plat_base.specs.Seen.{machine}
use Rattle.plat_cost.specs.Certificates.{number_at, IsRowBelow}
use Rattle.plat_cost.proofs.bounds.are_rows_below.Given as goal

abbrev pub invariant-loop-i : goal.invariant-loop-i
invariant-loop-i l = (k : ℕ) → k < l.i → IsRowBelow (machine l.cfg) l.actors (number_at (machine l.cfg) l.rest) k
