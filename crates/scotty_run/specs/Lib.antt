pub mod Settling
pub mod Answer
pub mod Making
pub mod InMemory
pub mod Watching
pub mod Tailing
