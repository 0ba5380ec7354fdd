mod Told
mod Causes
pub mod RunOnce
pub mod CheckOnce
pub mod MadeOnce
