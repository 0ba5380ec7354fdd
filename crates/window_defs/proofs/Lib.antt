pub mod TableFacts
pub mod WindowFacts
pub mod ReadingFacts
pub mod TroubleFacts
pub mod Examples
