pub mod Standing
pub mod Counts
pub mod Keys
pub mod Heads
pub mod Placing
pub mod RoomSeen
