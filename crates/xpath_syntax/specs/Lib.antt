pub mod Readings
pub mod Spelled
pub mod ExprReadings
pub use Rattle.expr_resolve.specs as ExprResolve
