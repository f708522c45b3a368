pub mod Digits
pub mod GroupLemmas
pub mod LabelLemmas
pub mod NodeLayers
pub mod Runs
pub mod Showable
pub mod Writing
