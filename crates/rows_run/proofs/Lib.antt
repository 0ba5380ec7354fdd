pub mod Sent
pub mod Stops
