-- What a reader must believe: the definitions that the promises of the runtime speak of, on plain lists and whole numbers.
pub mod What
pub mod Watermark
pub mod Functions
pub mod Journal
pub mod Routes
pub mod Windows
pub mod Changes
pub mod Moments
pub mod Text
pub mod Journals
pub mod Slices
pub mod Final
pub mod Opened
pub mod Cuts
