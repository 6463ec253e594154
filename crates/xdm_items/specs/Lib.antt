pub mod Conversion
pub mod Lists
pub mod Matching
pub mod Truth
pub mod Values
pub mod FunctionArguments
pub use Rattle.node_tests.specs as NodeTests
pub use Rattle.node_tests.specs.XtTree
