pub mod Fields
pub mod Psml
pub mod Summaries
