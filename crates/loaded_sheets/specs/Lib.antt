pub mod Wholes
pub mod Sheets
pub mod Laws
pub mod LoadedParts
pub use Rattle.module_loading.specs as ModuleLoading
pub use Rattle.sheet_language.specs as SheetLanguage
