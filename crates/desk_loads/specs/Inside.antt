pub mod Fillings
pub mod ScriptConsoles
pub mod LayoutChanges
