pub mod Stages
pub mod Phases
pub mod Fits
pub mod Decided
pub mod Courses
pub mod Locks
pub mod HandlerSeen
pub mod Settled
