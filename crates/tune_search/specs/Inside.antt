pub mod Four
pub mod EntryLinks
pub mod HeldKeys
pub mod IncipitLinks
pub mod TextEntries
pub mod Lengthening
