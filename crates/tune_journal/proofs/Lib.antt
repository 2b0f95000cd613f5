pub mod Above
mod AfterParts
mod Agreeing
mod AheadPages
mod Applying
mod Blanks
mod CallRuns
mod Chain
pub mod ChangeLists
mod Changed
mod Entries
mod KeptLists
mod Loops
mod Making
mod Openings
mod PartsSince
pub mod Puts
mod Recovery
mod Rests
mod Standing
mod Windows
