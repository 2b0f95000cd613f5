pub mod CheckLemmas
pub mod CopyLemmas
pub mod ListedLemmas
pub mod NameLemmas
pub mod NextLemmas
pub mod ThinLemmas
