pub mod Counts
pub mod FileHost
pub mod Host
pub mod MemHost
pub mod Named
