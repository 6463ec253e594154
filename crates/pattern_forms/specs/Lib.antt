pub mod Forms
pub mod Kinds
pub mod PatternShapes
pub use Rattle.quiet_meaning.specs as QuietMeaning
