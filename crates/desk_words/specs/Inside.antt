pub mod CommandTable
pub mod Commands
pub mod Joining
pub mod Sorting
