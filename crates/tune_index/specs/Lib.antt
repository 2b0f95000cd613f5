pub mod Leaves
pub mod Indexes
pub mod ListedLeaves
pub mod Inside
