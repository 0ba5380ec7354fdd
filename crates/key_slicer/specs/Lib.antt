pub mod Parts
pub mod Sorted
pub mod States
pub mod Work
pub mod Joining
pub mod Promises
pub mod Keys
