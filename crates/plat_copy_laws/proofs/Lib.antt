pub mod CopyLaws
pub mod GrantedLaws
pub mod PassedLaws
pub mod ReachLaws
pub mod TargetOrderLaws
