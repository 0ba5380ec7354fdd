pub mod Bundles
pub mod Examples
pub mod Means
pub mod Partials
pub mod RangeFacts
pub mod RangeFolds
