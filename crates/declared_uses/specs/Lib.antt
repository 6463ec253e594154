pub mod Numbers
pub mod Orders
pub use Rattle.loaded_sheets.specs as LoadedSheets
pub use Rattle.assembly_laws.specs.SheetClosure
pub use Rattle.loaded_sheets.specs.SheetLanguage
pub use Rattle.sheet_rules.specs as SheetRules
