pub mod Either
pub mod Kinds
