pub mod ModuleNames
pub use Rattle.xt_sheets.specs as XtSheets
