pub mod Entries
pub mod Cuts
pub mod KeyLists
pub mod Groups
pub mod Holdings
pub mod Inside
