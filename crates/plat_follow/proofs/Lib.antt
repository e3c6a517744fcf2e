pub mod RunLemmas
pub mod NextLemmas
pub mod FollowLemmas
pub mod EndLemmas
pub mod ProcessorLemmas
