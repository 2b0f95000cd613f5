pub mod Record
pub mod Marks
pub mod Inside
