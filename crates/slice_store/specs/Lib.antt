pub mod Following
pub mod Inside
pub mod Placing
