pub mod FileAnswers
pub mod OpenedFile
pub mod Printing
pub mod Scenes
pub mod Visits
