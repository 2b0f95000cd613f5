pub mod LineEndings
pub mod LinesLeft
pub mod HeaderRows
pub mod Shares
pub mod CarriedBytes
pub mod HeaderEnds
pub mod ToldLines
