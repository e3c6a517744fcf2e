pub mod Sound
pub mod Live
pub mod Room
