pub mod ReadLemmas
pub mod SwapLemmas
pub mod NeighbourLemmas
pub mod OrderLemmas
pub mod JournalLemmas
pub mod MergeLaws
pub mod Rows
