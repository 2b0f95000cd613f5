pub mod AsStore
pub mod Inside
pub mod Media
pub mod OpenedArchive
pub mod Shelf
