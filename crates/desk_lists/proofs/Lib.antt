pub mod AsciiLemmas
pub mod TextLemmas
pub mod WordLemmas
pub mod AppendLemmas
