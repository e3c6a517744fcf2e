use Rattle.std.proofs.Common.{◌≡◌, ◌∷◌}
use Rattle.plat_base.specs.Decide.{nearest}
use Rattle.plat_base.specs.Seen.{machine}
use Rattle.plat_policy.proofs.Walks.{copies_from}
use Rattle.plat_policy.proofs.distances.nearest.Given as goal

abbrev pub invariant-loop-module : goal.invariant-loop-module
invariant-loop-module l =
    nearest (machine l.cfg) l.node (l.best ∷ copies_from l.module l.copies) ≡ nearest (machine l.cfg) l.node l.copies
