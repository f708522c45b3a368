pub mod Forms
pub mod Layers
pub mod Means
