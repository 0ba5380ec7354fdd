pub mod Lanes
pub mod Counted
pub mod Places
pub mod Untold
