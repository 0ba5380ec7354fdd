pub mod Answering
pub mod Parting
pub mod ReadTexts
pub mod Joins
pub mod WordFacts
