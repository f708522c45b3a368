pub mod Added
pub mod Chains
pub mod NodeText
