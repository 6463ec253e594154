pub mod Names
pub mod Uses
pub mod Rules
pub mod SheetDeclarations
pub mod WideRules
pub use Rattle.sheet_expressions.specs as SheetExpressions
