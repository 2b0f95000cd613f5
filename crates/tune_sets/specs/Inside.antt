pub mod HeldNames
pub mod Search
