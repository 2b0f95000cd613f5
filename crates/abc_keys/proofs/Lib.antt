pub mod FifthBounds
pub mod CountRule
pub mod SameScaleLaw
pub mod PairLaw
pub mod AccidentalLaws
pub mod RunLaw
pub mod ModeWordLaw
pub mod ModeCaseLaw
pub mod TonicLaw
pub mod KeyCaseLaw
mod ScaleTable
mod WorkedKeys
