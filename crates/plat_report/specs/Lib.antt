pub mod Actors
pub mod Caches
pub mod Counts
pub mod Flats
pub mod Lines
pub mod Runs
pub mod Silent
pub mod Sums
