pub mod Settings
pub mod Language
pub mod Meanings
pub use Rattle.pattern_syntax.specs as PatternSyntax
pub use Rattle.sheet_values.specs as SheetValues
