pub mod HistoryLaws
pub mod RunLaws
pub mod PolicyLaws
pub mod Rows
