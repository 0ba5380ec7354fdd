pub mod Standings
pub mod Tallies
pub mod Watched
pub mod Inside
