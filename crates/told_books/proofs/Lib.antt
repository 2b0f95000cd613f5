mod WorkedFates
pub mod FateLemmas
pub mod SumLemmas
pub mod FaultLemmas
pub mod LineSteps
pub mod KeptLaw
pub mod CarriedLaw
pub mod AnswerLaw
pub mod ToldLaw
