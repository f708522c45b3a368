pub mod EmptyTables
