pub mod Evaluates
pub mod Latest
pub mod Numbers
pub mod Operand
pub mod Reads
pub mod Sources
pub mod Yields
