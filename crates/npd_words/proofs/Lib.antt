mod Digits
mod Fit
mod InRange
pub mod Told
