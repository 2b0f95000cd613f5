pub mod ByteLemmas
pub mod NameOrder
pub mod SearchLemmas
pub mod ChangeLemmas
pub mod LimitLemmas
pub mod PlaceLemmas
