pub mod ActorsLemmas
pub mod RandomLemmas
pub mod ListedLemmas
pub mod ChoiceLemmas
pub mod NextLemmas
