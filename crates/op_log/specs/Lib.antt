pub mod Checked
pub mod Laws
pub mod Overlay
pub mod Recorded
