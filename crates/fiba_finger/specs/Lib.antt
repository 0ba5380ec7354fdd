pub mod Fingers
pub mod Edges
pub mod Climbs
pub mod Pulls
