pub mod Fields
pub mod Closed
pub mod Steps
pub mod Places
pub mod Reader
pub mod Faults
pub mod EntryLogs
pub mod Changes
