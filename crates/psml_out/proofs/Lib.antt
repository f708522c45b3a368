pub mod BySection
pub mod Escaping
pub mod LastField
pub mod SectionLines
