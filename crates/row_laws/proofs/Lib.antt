pub mod Numerals
pub mod RowWords
pub mod ToldRows
pub mod ValueBounds
pub mod RowBounds
pub mod RowExamples
