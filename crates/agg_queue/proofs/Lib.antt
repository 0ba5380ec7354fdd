pub mod Ranges
pub mod Stacks
pub mod Within
