pub mod Meaning
pub mod FlatRun
