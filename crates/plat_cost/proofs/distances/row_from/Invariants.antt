use Rattle.std.proofs.Common.{◌≡◌, ◌<◌, ℕ, length, get_or}
use Rattle.plat_base.specs.Pages.{distance}
use Rattle.plat_base.specs.Seen.{machine}
use Rattle.plat_base.specs.declared.limits.TheConstants.{MODULES}
use Rattle.plat_cost.proofs.distances.row_from.Given as goal

abbrev pub invariant-loop-b : goal.invariant-loop-b
invariant-loop-b l = record {
  size : length l.row ≡ MODULES;
  done : (k : ℕ) → k < l.b → get_or l.row k 0 ≡ distance (machine l.cfg) l.a k;
}
