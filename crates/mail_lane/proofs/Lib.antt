pub mod Letters
pub mod Rules
pub mod Senders
pub mod States
