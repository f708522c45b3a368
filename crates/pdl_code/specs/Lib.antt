pub mod Coding
pub mod Does
pub mod Means
pub mod Parts
pub mod Sound
pub mod Written
