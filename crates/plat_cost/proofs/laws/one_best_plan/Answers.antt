use Rattle.plat_cost.proofs.BestPlanLaws.{best_plan-best}
use Rattle.plat_cost.proofs.PlanLaws.{best-one}
use Rattle.plat_cost.proofs.laws.one_best_plan.Goals as goal

pub returns-clause-one : goal.returns-clause-one
returns-clause-one c = best-one

pub returns-clause-best : goal.returns-clause-best
returns-clause-best c = best_plan-best
