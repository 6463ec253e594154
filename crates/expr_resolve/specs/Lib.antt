pub mod Tables
pub mod Folds
pub use Rattle.expr_control.specs as ExprControl
pub use Rattle.expr_primaries.specs.ExprNames
pub use Rattle.expr_primaries.specs as ExprPrimaries
pub use Rattle.expr_primaries.specs.ExprRules
