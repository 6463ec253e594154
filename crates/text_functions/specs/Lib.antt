pub mod Joins
pub mod TextFunctions
pub mod NameFunctions
pub use Rattle.text_operations.specs as TextOperations
pub use Rattle.xdm_items.specs as XdmItems
