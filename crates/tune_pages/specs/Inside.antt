pub mod Cached
pub mod Claiming
pub mod Codes
pub mod Freed
pub mod HeldPages
pub mod Link
pub mod NextFree
pub mod Walking
