pub mod Streams
pub mod Takes
pub mod Adds
pub mod Adapters
pub mod Memory
pub mod Lines
