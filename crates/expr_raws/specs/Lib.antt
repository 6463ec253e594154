pub mod Raws
pub mod PathRaws
pub mod ControlRaws
pub mod ElementRaws
pub use Rattle.expr_resolve.specs.ExprControl
pub use Rattle.expr_resolve.specs.ExprPrimaries
pub use Rattle.expr_resolve.specs as ExprResolve
pub use Rattle.expr_rules.specs as ExprRules
pub use Rattle.expr_tokens.specs as ExprTokens
