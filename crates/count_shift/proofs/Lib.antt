pub mod Upper
pub mod Standing
pub mod Shift
pub mod Folding
pub mod Telling
pub mod Behind
pub mod Puts
