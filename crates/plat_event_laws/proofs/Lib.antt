pub mod EventLaws
pub mod LiveLaws
pub mod RunLaws
pub mod ScheduledLaws
