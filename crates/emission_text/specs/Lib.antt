pub mod Sending
pub mod Report
pub mod DefsFaults
pub mod Faults
pub mod Findings
pub mod Summary
