pub mod CoarseTried
pub mod FollowTried
pub mod ReportTried
pub mod RaceTried
pub mod CostTried
