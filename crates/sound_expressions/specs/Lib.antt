pub mod SoundForms
pub use Rattle.closed_queries.specs as ClosedQueries
pub use Rattle.expr_resolve.specs as ExprResolve
