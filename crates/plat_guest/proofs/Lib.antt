pub mod LimitsLemmas
