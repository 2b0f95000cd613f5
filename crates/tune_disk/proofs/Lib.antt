pub mod Overwrites
mod Stays
mod FileStays
mod Filled
mod Kept
pub mod Moments
mod Parts
mod Told
pub mod Writes
