pub mod FileDoings
pub mod Subcommands
