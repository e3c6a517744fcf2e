pub mod Sought
pub mod Steps
pub mod ShootSeen
pub mod Parts
