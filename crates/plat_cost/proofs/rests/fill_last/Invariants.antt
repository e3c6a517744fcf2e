use Rattle.std.proofs.Common.{◌≡◌, ◌<◌, ◌+◌, ℕ}
use Rattle.std.specs.Prelude.{slice_index}
use Rattle.plat_base.specs.Pages.{distance}
use Rattle.plat_base.specs.Seen.{machine}
use Rattle.plat_cost.proofs.rests.fill_last.Given as goal

abbrev pub invariant-loop-x : goal.invariant-loop-x
invariant-loop-x l = (k : ℕ) → k < l.x → slice_index l.rest (l.base + k) ≡ distance (machine l.cfg) l.actor k
