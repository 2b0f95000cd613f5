pub mod AddedBooks
pub mod CheckedBooks
pub mod ChosenParts
pub mod Givens
pub mod KnownSums
pub mod Stages
pub mod TriedBooks
