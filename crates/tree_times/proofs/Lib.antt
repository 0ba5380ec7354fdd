mod Keys
mod Lates
pub mod Ranks
