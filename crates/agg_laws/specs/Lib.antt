pub mod Laws
pub mod Counters
pub mod Compounds
pub mod Pairs
pub mod Tables
