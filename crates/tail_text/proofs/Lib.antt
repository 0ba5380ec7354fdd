pub mod FollowingFacts
pub mod TailLines
pub mod TextFacts
