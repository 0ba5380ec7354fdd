pub mod Waking
pub mod Recording
pub mod PartStreams
pub mod JoinedRuns
pub mod Examples
pub mod WholeRuns
