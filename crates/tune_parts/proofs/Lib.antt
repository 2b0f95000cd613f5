mod Examples
pub mod Lists
pub mod Once
pub mod PartLemmas
pub mod Staying
pub mod Traded
pub mod TradedParts
