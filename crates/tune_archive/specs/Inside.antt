pub mod Changing
pub mod Fetching
pub mod Holding
pub mod Opening
