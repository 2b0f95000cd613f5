pub mod CommandLemmas
pub mod EachLemmas
pub mod ParseLemmas
pub mod NumberLemmas
