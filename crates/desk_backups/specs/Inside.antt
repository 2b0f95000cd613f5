pub mod Checking
pub mod Copying
pub mod Numbering
pub mod Thinned
