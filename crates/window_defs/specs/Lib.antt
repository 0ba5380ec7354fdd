pub mod Document
pub mod Tables
pub mod Windows
pub mod Reading
pub mod Trouble
