pub mod Parts
pub mod Meant
pub mod Names
pub mod Readings
pub mod Spelled
pub mod Predicates
pub mod PatternPriorities
pub mod PatternReadings
pub use Rattle.expr_resolve.specs as ExprResolve
