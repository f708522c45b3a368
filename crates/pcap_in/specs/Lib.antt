pub mod Capture
pub mod Fail
pub mod Laws
pub mod Reading
pub mod Reader
