pub mod StepLaws
pub mod HeldLaws
pub mod WaitLaws
pub mod UseLaws
