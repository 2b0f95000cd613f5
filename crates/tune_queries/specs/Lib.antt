pub mod Limits
pub mod Queries
