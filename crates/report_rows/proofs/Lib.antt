pub mod SourceFacts
pub mod TextFacts
pub mod ChangeFacts
