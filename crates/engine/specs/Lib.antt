pub mod Engine
pub mod Laws
pub mod Ready
pub mod Texts
pub mod Trace
