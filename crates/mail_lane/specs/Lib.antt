pub mod Lane
pub mod Rule
