pub mod Costs
pub mod Plans
pub mod BestPlans
pub mod Certificates
pub mod Distances
pub mod Rests
pub mod Placements
pub mod CostLines
