pub mod Statuses
pub mod Words
pub mod Sending
pub mod Answer
