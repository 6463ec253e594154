pub mod Late
pub use Rattle.eval_scopes.specs as EvalScopes
pub use Rattle.eval_scopes.specs.LazySeq
pub use Rattle.eval_scopes.specs.NodeWalks
pub use Rattle.eval_scopes.specs.OperatorValues
