use Rattle.plat_base.specs.Seen.{machine}
use Rattle.plat_follow.specs.Followed.{AllStand}
use Rattle.plat_coarse_tests.proofs.follow_tests.follow.Given as goal

abbrev pub invariant-loop-item : goal.invariant-loop-item
invariant-loop-item l = AllStand (machine l.cfg) l.followers
