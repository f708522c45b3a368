pub mod Ends
pub mod Fronts
pub mod Headers
pub mod Limited
pub mod More
pub mod ReaderLemmas
pub mod Reading
pub mod Records
