pub mod Limits
pub mod Names
pub mod Numbers
pub mod Sets
pub mod Calls
pub mod SetBytes
pub mod Laws
pub mod Inside
