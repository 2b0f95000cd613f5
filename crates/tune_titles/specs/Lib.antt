pub mod Articles
pub mod Titles
pub mod Order
pub mod ShownRows
pub mod TitleAndRhythmKeys
pub mod Inside
