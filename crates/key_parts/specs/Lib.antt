pub mod Held
pub mod Moves
pub mod Calls
pub mod Work
pub mod Promises
pub mod PartLaws
