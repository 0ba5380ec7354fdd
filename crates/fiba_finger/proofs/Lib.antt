pub mod Taking
pub mod Sprouting
pub mod Edges
pub mod Climbing
pub mod Regrown
pub mod Pulling
pub mod Raising
pub mod Lefts
