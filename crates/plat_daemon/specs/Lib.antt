pub mod Places
pub mod DaemonSeen
pub mod Fits
