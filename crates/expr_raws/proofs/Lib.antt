pub mod Induction
pub mod Parts
pub mod Operators
pub mod Forms
pub mod PathRaws
pub mod ControlRaws
pub mod ElementRaws
