pub mod OnePage
pub mod LastPhases
pub mod Handling
