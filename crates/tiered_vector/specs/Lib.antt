pub mod Inside
pub mod Tiers
