pub mod Texts
pub mod Following
