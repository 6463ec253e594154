pub mod ExprPaths
pub mod ExprElements
pub use Rattle.expr_rules.specs.ExprNames
pub use Rattle.expr_rules.specs as ExprRules
