pub mod NoTables
