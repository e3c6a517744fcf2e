pub mod DaemonTriedLemmas
