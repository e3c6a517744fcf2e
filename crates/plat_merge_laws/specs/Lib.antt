pub mod Merging
pub mod Worked
