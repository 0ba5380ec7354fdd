pub mod Parting
pub mod DefinitionsTold
pub mod TextParts
pub mod Examples
