pub mod SheetDeclarations
pub mod WideRules
