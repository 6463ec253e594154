pub mod Answers
pub mod Names
pub mod Types
pub mod Doubles
pub use Rattle.xt_types.specs as XtTypes
