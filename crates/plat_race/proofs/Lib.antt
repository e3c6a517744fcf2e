pub mod Befores
pub mod Marking
pub mod Racing
pub mod Steps
pub mod Rising
pub mod Reordering
mod Rows
