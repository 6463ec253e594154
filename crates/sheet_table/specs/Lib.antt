pub mod Texts
pub mod Attributes
pub mod Elements
pub mod Rows
pub mod RowsOfCode
pub mod Choices
pub mod ChoicesOfCode
pub mod Contents
pub mod Rules
pub mod SheetNodes
pub use Rattle.expr_names.specs as ExprNames
