use Rattle.std.proofs.Common.{◌≡◌, ◌<◌, ℕ, [], length, get_or}
use Rattle.plat_base.specs.Seen.{machine}
use Rattle.plat_base.specs.declared.limits.TheConstants.{MODULES}
use Rattle.plat_cost.specs.Distances.{IsRowFrom}
use Rattle.plat_cost.proofs.distances.distances.Given as goal

abbrev pub invariant-loop-a : goal.invariant-loop-a
invariant-loop-a l = record {
  size : length l.rows ≡ MODULES;
  done : (k : ℕ) → k < l.a → IsRowFrom (machine l.cfg) k (get_or l.rows k []);
}
