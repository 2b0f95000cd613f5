pub mod Searched
pub mod Filed
pub mod RootOffsets
pub mod Reading
pub mod States
pub mod Written
