-- What contracts and ghost members inside this crate cite.
pub mod Fills
pub mod Spares
pub mod ToldMore
pub mod WrappedCodes
pub mod MayStay
