pub mod UnlockGoodLaws
pub mod UnlockStepLaws
pub mod UnlockPageLaws
pub mod UnlockEntryLaws
pub mod UnlockingLaws
