pub mod Lists
pub mod Ready
pub mod Search
pub mod Space
pub mod State
