pub mod Unlocking
