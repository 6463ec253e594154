pub mod Known
pub mod Rules
pub mod ExprMeant
pub mod ExprShapes
pub use Rattle.expr_names.specs as ExprNames
pub use Rattle.expr_terms.specs as ExprTerms
