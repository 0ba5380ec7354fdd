pub mod Outside
pub mod Memory
pub mod MemFile
pub mod NameLogs
pub mod ReadLogs
pub mod FileLogs
pub mod Whole
