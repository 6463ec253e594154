pub mod ClosedNames
pub mod NamedKeys
pub mod SheetLaws
pub mod ClosedExpressions
pub mod PatternCuts
pub mod ClosedPatterns
