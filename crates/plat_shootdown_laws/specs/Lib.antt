pub mod Shots
pub mod Shooting
