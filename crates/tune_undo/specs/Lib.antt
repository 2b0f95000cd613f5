pub mod TextSums
pub mod OldEntries
pub mod EntryBytes
pub mod OldItems
pub mod OldTextLaws
pub mod Inside
