pub mod Rule
pub mod Ports
pub mod Actors
pub mod Riders
pub mod Boards
pub mod Closed
