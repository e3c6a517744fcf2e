use Rattle.plat_base.specs.Seen.{machine}
use Rattle.plat_cost.specs.Placements.{IsFor}
use Rattle.plat_coarse_tests.proofs.cost_tests.places_a_page.Given as goal

abbrev pub invariant-loop-items : goal.invariant-loop-items
invariant-loop-items g l = IsFor (machine l.cfg) l.placer
