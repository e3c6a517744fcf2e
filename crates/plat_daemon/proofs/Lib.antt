pub mod StageLemmas
pub mod DaemonLemmas
