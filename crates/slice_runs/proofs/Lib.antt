pub mod UpTo
pub mod Parts
