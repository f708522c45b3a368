pub mod Again
pub mod Looking
