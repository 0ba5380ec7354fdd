pub mod SessionsStand
pub mod MarksStand
pub mod Spanned
pub mod Marked
pub mod Aligned
pub mod Calls
pub mod SessionCalls
pub mod MarkCalls
