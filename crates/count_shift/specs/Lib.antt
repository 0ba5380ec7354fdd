pub mod Counting
pub mod Lane
pub mod Folded
pub mod Followed
pub mod Told
