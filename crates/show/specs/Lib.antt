pub mod Labels
pub mod Markup
pub mod Naming
pub mod NodeFold
pub mod Shown
pub mod Stamps
