pub mod OneShard
pub mod Accepting
