pub mod Inside
pub mod Marked
pub mod Begun
