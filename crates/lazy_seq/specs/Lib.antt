pub mod Flow
pub mod Integers
pub mod Leaves
pub mod Looks
pub mod Orders
pub mod Shapes
pub mod ShapesFall
pub mod Stable
pub mod Stacks
pub mod Stocks
pub use Rattle.node_walks.specs.NodeAxes
pub use Rattle.node_walks.specs as NodeWalks
