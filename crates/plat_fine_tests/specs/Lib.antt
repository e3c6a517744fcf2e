pub mod ProcTried
pub mod DaemonTried
