pub mod ArchiveLemmas
mod AskLemmas
mod BeginLemmas
pub mod BegunLemmas
pub mod DeedLists
pub mod EntryLemmas
mod NameLemmas
mod OldTextsLemmas
mod PutLemmas
mod ResultLemmas
pub mod SpareLemmas
