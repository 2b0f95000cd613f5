pub mod FrontLengths
pub mod Misses
pub mod PlainFronts
pub mod ItemRows
