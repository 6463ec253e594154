pub mod Lists
pub mod Types
pub mod Operators
pub mod Bindings
pub mod Table
pub use Rattle.xt_types.specs as XtTypes
