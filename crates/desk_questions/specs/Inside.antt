pub mod DumpCalls
pub mod QuestionCalls
pub mod SoughtWords
pub mod SeenTunes
