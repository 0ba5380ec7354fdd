pub mod Totals
pub mod Histories
pub mod Moves
pub mod Numbers
pub mod Joins
pub mod Closing
