pub mod KeyLaws
pub mod StepRows
pub mod IncipitLaws
pub mod Growing
pub mod Examples
pub mod SmallKeys
