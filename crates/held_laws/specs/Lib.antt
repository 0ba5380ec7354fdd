pub mod Settling
pub mod Dropped
