pub mod AskLemmas
pub mod CallLemmas
pub mod LookLemmas
