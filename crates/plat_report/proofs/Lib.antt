pub mod CacheLemmas
pub mod CountLemmas
pub mod FlatLemmas
pub mod Printing
pub mod RunLemmas
pub mod SilentLemmas
pub mod SumLemmas
pub mod WritingLemmas
