pub mod Apart
pub mod Findings
pub mod Examples
pub mod Waters
pub mod Readable
pub mod Held
pub mod Steps
pub mod Ledgers
