pub mod Inside
pub mod LoadedScripts
pub mod Upgraded
