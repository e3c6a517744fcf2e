pub mod Accesses
pub mod Starting
