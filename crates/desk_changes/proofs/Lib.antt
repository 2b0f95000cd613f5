pub mod AlteringLemmas
pub mod BackLemmas
pub mod BookLemmas
pub mod LookingLemmas
pub mod ReplacingLemmas
pub mod TellingLemmas
pub mod UndoLemmas
pub mod WorkLemmas
