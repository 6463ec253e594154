pub mod Faults
pub mod Answers
pub mod Bindings
pub mod Tables
pub mod Scopes
pub mod EvalValues
pub use Rattle.expr_meaning.specs as ExprMeaning
pub use Rattle.expr_meaning.specs.FnLib
pub use Rattle.expr_meaning.specs.ItemFunctions
pub use Rattle.expr_meaning.specs.LazySeq
pub use Rattle.expr_meaning.specs.NodeWalks
pub use Rattle.expr_meaning.specs.OperatorValues
