pub mod Acts
pub mod CommandLine
pub mod FileActs
pub mod Headline
pub mod Inside
pub mod ProgramLines
