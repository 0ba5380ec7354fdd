pub mod Spans
pub mod Telling
pub mod Held
pub mod Parted
pub mod Ahead
