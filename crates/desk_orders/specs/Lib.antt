pub mod Orders
pub mod ScriptVisits
