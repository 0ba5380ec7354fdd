pub mod Showing
mod Counted
pub mod ReadMore
pub mod Opening
pub mod Authors
pub mod TurnFacts
pub mod NextFacts
pub mod EndFacts
pub mod WatchFacts
