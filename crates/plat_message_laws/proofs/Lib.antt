pub mod ToldLaws
pub mod FoundLaws
pub mod BehindLaws
pub mod EntryLaws
pub mod ApplyLaws
