pub mod Bytes
pub mod ChangeLemmas
mod Examples
pub mod FileLemmas
mod KeshJig
pub mod StateLemmas
pub mod TextLemmas
