pub mod OperatorDrafts
pub mod ControlDrafts
