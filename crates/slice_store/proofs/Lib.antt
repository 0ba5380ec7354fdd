pub mod AnyOrder
pub mod PartialFacts
pub mod EnterFacts
pub mod CountFacts
pub mod CostFacts
pub mod SplitPartials
pub mod LeavePartials
pub mod PutCosts
mod WithinTimes
