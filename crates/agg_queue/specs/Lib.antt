pub mod Lanes
pub mod Queue
pub mod Ranges
pub mod Stacks
