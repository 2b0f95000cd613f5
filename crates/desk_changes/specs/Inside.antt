pub mod HeldTunes
pub mod ListedParts
pub mod Replacing
pub mod Telling
pub mod TriedUndoings
pub mod Turning
pub mod Works
