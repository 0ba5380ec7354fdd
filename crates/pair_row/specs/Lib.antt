pub mod Fronts
pub mod Extended
