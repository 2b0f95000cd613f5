pub mod OpenTables
