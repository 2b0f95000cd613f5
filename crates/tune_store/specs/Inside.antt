pub mod Lists
pub mod Plans
pub mod Questions
