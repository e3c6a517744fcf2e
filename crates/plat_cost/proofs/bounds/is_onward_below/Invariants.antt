use Rattle.std.proofs.Common.{◌<◌, ◌≤◌, ◌+◌, ◌*◌, ℕ}
use Rattle.std.specs.Prelude.{slice_index}
use Rattle.plat_base.specs.Pages.{distance}
use Rattle.plat_base.specs.Seen.{machine}
use Rattle.plat_cost.proofs.bounds.is_onward_below.Given as goal

abbrev pub invariant-loop-y : goal.invariant-loop-y
invariant-loop-y l =
    (k : ℕ) → k < l.y → l.number ≤ l.own + (l.cfg.words * distance (machine l.cfg) k l.x + slice_index l.rest (l.next + k))
