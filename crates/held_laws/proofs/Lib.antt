pub mod HoldFacts
pub mod AlikeFacts
pub mod SliceFacts
pub mod PurgeFacts
pub mod SettleFacts
pub mod CountFacts
pub mod PartFacts
pub mod OpenFacts
