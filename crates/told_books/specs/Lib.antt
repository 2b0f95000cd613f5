pub mod FateLines
pub mod Fates
pub mod Inside
pub mod ToldTunes
