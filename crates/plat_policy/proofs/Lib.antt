pub mod Asking
pub mod Faults
pub mod Frames
pub mod Walks
