pub mod Functions
pub mod Values
pub use Rattle.item_functions.specs as ItemFunctions
pub use Rattle.text_functions.specs.TextOperations
