pub mod SumWords
pub mod ItemReading
pub mod EntryLines
pub mod Found
