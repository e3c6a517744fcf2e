pub mod TableTriedLemmas
pub mod MergeTriedLemmas
