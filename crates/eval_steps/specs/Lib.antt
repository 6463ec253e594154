pub mod Parts
pub mod Lists
pub mod Sizes
pub mod Steps
pub mod ValueSlots
pub mod EvalInner
pub use Rattle.eval_lates.specs as EvalLates
pub use Rattle.eval_lates.specs.EvalScopes
pub use Rattle.expr_meaning.specs as ExprMeaning
pub use Rattle.eval_lates.specs.OperatorValues
