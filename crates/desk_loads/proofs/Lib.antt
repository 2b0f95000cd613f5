pub mod FillLemmas
pub mod LoadLemmas
pub mod RestLemmas
pub mod ScriptLemmas
pub mod UpgradeLemmas
