pub mod WindowFacts
pub mod LaneFacts
pub mod CountFacts
pub mod DueFacts
