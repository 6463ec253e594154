pub mod Words
pub mod Spaces
pub mod Options
pub use Rattle.expr_rules.specs as ExprRules
