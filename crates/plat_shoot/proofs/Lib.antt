pub mod WalkLemmas
pub mod TargetLemmas
pub mod PostLemmas
pub mod FitLemmas
pub mod PassedLemmas
