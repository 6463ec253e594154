pub mod Sheets
pub mod Laws
pub use Rattle.loaded_sheets.specs as LoadedSheets
pub use Rattle.sheet_closure.specs as SheetClosure
