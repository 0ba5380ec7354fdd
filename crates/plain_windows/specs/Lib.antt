pub mod Extents
pub mod Runs
pub mod Rows
pub mod Walks
pub mod Changing
pub mod Turns
