pub mod Layers
pub use Rattle.xt_types.specs as XtTypes
