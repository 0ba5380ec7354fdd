pub mod Words
pub mod Jobs
pub mod LastWords
pub mod Commands
