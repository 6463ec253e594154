pub mod CleanRaws
pub use Rattle.expr_raws.specs as ExprRaws
