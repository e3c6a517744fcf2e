pub mod GuestSteps
pub mod GuestPasses
pub mod HaltLaws
pub mod GeneratedLaws
