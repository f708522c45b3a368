pub mod NumberLemmas
pub mod Through
