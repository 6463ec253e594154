pub mod ClosedNames
pub mod PatternCuts
pub use Rattle.pattern_syntax.specs as PatternSyntax
pub use Rattle.sheet_closure.specs as SheetClosure
pub use Rattle.sheet_language.specs as SheetLanguage
pub use Rattle.xpath_syntax.specs as XpathSyntax
