mod Examples
pub mod ReadLines
