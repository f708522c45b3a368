pub mod Filled
pub mod Held
pub mod Parts
pub mod Renewals
pub mod Sound
pub mod Walks
pub mod Widths
pub mod Zips
