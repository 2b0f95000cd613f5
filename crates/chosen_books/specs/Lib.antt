pub mod Inside
pub mod KnownTexts
pub mod BookTunes
pub mod ChosenTunes
