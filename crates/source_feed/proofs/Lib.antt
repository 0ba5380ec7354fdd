pub mod Closing
pub mod CsvSteps
pub mod Dealing
pub mod EventSteps
pub mod Examples
pub mod GeneratedExamples
pub mod Giving
pub mod Made
pub mod MadeGiving
mod Feeding
