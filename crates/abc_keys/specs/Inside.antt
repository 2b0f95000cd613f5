pub mod LetterCounts
pub mod ModeWords
pub mod PairSteps
pub mod KeySteps
