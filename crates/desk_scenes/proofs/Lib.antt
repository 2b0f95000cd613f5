pub mod FileLemmas
pub mod QuietLemmas
pub mod VisitLemmas
