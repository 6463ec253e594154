pub mod QueryRaws
pub mod PrintedQueries
pub mod PrintedReads
pub use Rattle.expr_raws.specs as ExprRaws
pub use Rattle.raw_laws.specs as RawLaws
pub use Rattle.token_laws.specs as TokenLaws
pub use Rattle.xquery_syntax.specs as XquerySyntax
