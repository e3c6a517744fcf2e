pub mod Faults
pub mod Phases
pub mod Standing
pub mod Numbers
pub mod Alone
pub mod Words
