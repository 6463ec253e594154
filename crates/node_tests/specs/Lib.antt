pub mod Tests
pub use Rattle.xt_tree.specs as XtTree
pub use Rattle.xt_types.specs as XtTypes
