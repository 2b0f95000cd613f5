pub mod EventView
pub mod BarTables
pub mod Bounds
pub mod KeptBar
pub mod BareNotes
pub mod LetterPitches
pub mod LateSignatures
