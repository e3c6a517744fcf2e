use Rattle.std.proofs.Common.{◌≡◌, ◌+◌, ◌≤◌, length, take}
use Rattle.plat_coarse.proofs.turns.Coarse.finish.Given as goal

abbrev pub invariant-loop-ended : goal.invariant-loop-ended
invariant-loop-ended g l =
    (l.handed.items ≡ take l.ended-index l.ended-items) × (length l.ended-items ≤ l.handed.spare + l.ended-index)
