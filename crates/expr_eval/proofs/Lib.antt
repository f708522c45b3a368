pub mod Bytes
pub mod Steps
pub mod Forms
pub mod Latest
pub mod Taken
