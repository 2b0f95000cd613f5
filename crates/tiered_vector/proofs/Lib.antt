pub mod Behind
pub mod Held
pub mod Joined
pub mod Lists
pub mod Slots
pub mod Tiers
pub mod Turning
