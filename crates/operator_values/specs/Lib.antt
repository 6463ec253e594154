pub mod Comparisons
pub mod NodeSets
pub mod Nodes
pub mod Numbers
pub mod Operands
pub mod Types
pub use Rattle.lazy_seq.specs as LazySeq
pub use Rattle.lazy_seq.specs.NodeAxes
pub use Rattle.lazy_seq.specs.NodeWalks
pub use Rattle.xdm_items.specs as XdmItems
