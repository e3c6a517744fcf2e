pub mod Phased
pub mod SessionMoved
pub mod QuietPhases
pub mod StartPhases
pub mod Handling
