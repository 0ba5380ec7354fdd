pub mod Tallies
pub mod Rule
pub mod Watching
pub mod Writing
pub mod Authoring
pub mod Watched
pub mod Turning
pub mod Ending
