pub mod Stored
pub mod Entered
