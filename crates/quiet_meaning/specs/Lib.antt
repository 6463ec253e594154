pub mod Values
pub mod Quietly
pub mod Forms
pub mod Paths
pub use Rattle.node_axes.specs as NodeAxes
pub use Rattle.xdm_items.specs.NodeTests
pub use Rattle.xdm_items.specs as XdmItems
pub use Rattle.xt_forms.specs as XtForms
