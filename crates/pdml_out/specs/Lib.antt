pub mod Pdml
