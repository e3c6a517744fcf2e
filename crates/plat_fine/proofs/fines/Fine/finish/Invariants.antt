use Rattle.std.proofs.Common.{◌≡◌, ◌+◌, ◌≤◌, length, take}
use Rattle.plat_fine.proofs.fines.Fine.finish.Given as goal

abbrev pub invariant-loop-ended : goal.invariant-loop-ended
invariant-loop-ended l =
    (l.handed.items ≡ take l.ended-index l.ended-items) × (length l.ended-items ≤ l.handed.spare + l.ended-index)
