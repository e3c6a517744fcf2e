pub mod Crew
pub mod FineSeen
