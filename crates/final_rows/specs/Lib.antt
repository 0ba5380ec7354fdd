pub mod AtEnd
