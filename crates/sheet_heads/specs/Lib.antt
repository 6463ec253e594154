pub mod Attributes
pub mod Characters
pub mod Forms
pub mod Parts
pub mod Sorts
pub mod Groupings
pub mod Leaves
pub mod Bodied
pub mod Literals
pub mod Bindings
pub mod Calls
pub mod Repeats
pub use Rattle.sheet_values.specs as SheetValues
