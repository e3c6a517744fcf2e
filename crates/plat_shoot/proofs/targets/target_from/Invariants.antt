use Rattle.std.proofs.Common.{◌≡◌, ◌+◌, length}
use Rattle.plat_shoot.specs.Sought.{IsAt}
use Rattle.plat_shoot.proofs.targets.target_from.Given as goal

-- the posts that the loop went past are passed too
abbrev pub invariant-loop-entry : goal.invariant-loop-entry
invariant-loop-entry l = IsAt l.cfg.nodes l.actor l.posts l.at l.here × (l.here.posts ≡ l.fn.first.posts + length l.yielded)
