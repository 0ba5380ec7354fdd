pub mod Words
pub mod Faults
pub mod Parting
pub mod Joining
pub mod Answer
