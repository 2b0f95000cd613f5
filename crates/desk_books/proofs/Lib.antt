pub mod AddLemmas
pub mod BookLemmas
pub mod KnownLemmas
pub mod TurnLemmas
