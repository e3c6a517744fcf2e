pub mod PlanLaws
pub mod BestPlanLaws
pub mod DistanceLaws
pub mod RestLaws
pub mod BoundLaws
pub mod CostLaws
pub mod PageLemmas
