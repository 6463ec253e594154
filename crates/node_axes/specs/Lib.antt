pub mod Axes
pub mod Course
pub mod Moves
pub mod Paths
pub mod StepWalks
pub use Rattle.node_tests.specs as NodeTests
pub use Rattle.xt_types.specs as XtTypes
