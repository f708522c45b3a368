mod Faults
mod Finds
mod NameCounts
mod NamedLemmas
mod Places
pub mod Transfers
mod Untold
