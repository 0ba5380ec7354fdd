pub mod Standins
pub mod Counting
pub mod Places
pub mod Keeps
