pub mod Nearer
pub mod Running
pub mod Reached
pub mod CoarseSeen
pub mod Acted
pub mod Advanced
