pub mod LetterTables
pub mod Rooms
pub mod Sums
