pub mod Pieces
pub mod LineLemmas
pub mod ReadLemmas
pub mod SinkLemmas
