pub mod Reads
pub mod Turns
