pub mod AtMost
pub mod Samples
pub mod Shootdown
