pub mod Outside
pub mod Opening
pub mod Statuses
pub mod Causes
pub mod Reading
pub mod Judging
