pub mod Fronts
pub mod WrittenParts
pub mod Choices
