pub mod Asked
pub mod Beginnings
pub mod Checks
pub mod HeldFiles
