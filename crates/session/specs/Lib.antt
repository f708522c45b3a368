pub mod Entries
pub mod Forms
pub mod State
pub mod Tables
