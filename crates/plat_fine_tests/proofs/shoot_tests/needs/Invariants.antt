use Rattle.plat_base.specs.Seen.{machine}
use Rattle.plat_shoot.specs.ShootSeen.{ShootsOn}
use Rattle.plat_fine_tests.proofs.shoot_tests.needs.Given as goal

abbrev pub invariant-loop-step : goal.invariant-loop-step
invariant-loop-step l = ShootsOn (machine l.cfg) l.shoot
