pub mod ReadBackLines
pub mod ReadBackWords
pub mod ReadBackEntry
pub mod ReadBack
pub mod ReadBackChanges
pub mod ReadBackExact
