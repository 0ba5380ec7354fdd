pub mod UpTo
pub mod Ranges
pub mod Putting
pub mod TimeFacts
pub mod PartFacts
pub mod SumFacts
pub mod RowFacts
pub mod HeldFacts
