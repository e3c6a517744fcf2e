use Rattle.std.proofs.Common.{◌≡◌}
use Rattle.std.specs.List.{list_all}
use Rattle.plat_base.specs.Decide.{is_frame}
use Rattle.plat_base.specs.Seen.{machine}
use Rattle.plat_policy.proofs.Walks.{copies_from}
use Rattle.plat_policy.proofs.conditions.are_frames.Given as goal

abbrev pub invariant-loop-module : goal.invariant-loop-module
invariant-loop-module l =
    list_all (is_frame (machine l.cfg)) (copies_from l.module l.copies) ≡ list_all (is_frame (machine l.cfg)) l.copies
