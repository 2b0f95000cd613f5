pub mod RecordLemmas
pub mod MarkLemmas
pub mod KeptLemmas
