pub mod WordFacts
pub mod LastFacts
