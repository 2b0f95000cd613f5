pub mod NextSteps
pub mod StepRows
