pub mod Captures
pub mod Causes
pub mod Checks
pub mod Complete
pub mod Ids
pub mod Runs
