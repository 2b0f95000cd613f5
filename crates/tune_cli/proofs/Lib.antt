pub mod CommandLineLemmas
mod Examples
mod HeadlineTrials
pub mod FileGiven
pub mod ParseLemmas
pub mod DriveLemmas
pub mod FileStates
pub mod HeadlineLemmas
