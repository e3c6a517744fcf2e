pub mod Changes
pub mod Placed
pub mod Outside
pub mod Keeping
