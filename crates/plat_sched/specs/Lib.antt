pub mod Actors
pub mod ScheduleSeen
pub mod Sources
