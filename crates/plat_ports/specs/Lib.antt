pub mod Ports
pub mod Made
pub mod Starts
