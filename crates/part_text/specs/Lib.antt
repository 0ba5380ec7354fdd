pub mod DefinitionsText
pub mod Holding
pub mod Parting
pub mod Writing
