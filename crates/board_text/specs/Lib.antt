pub mod Reads
pub mod Lines
