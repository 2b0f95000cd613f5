pub mod Marks
pub mod Grammar
pub mod NoteFronts
pub mod ItemSpans
pub mod ItemView
pub mod Plain
pub mod Inside
