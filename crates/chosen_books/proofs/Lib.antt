pub mod AloneLaw
pub mod PartLemmas
pub mod HeaderLaw
pub mod FrontLaw
pub mod FoundLaw
pub mod ChoiceLemmas
pub mod WholeLaw
