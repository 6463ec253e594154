pub mod Env
pub mod Logic
pub mod Values
pub mod Paths
pub mod Flow
pub mod Calls
pub mod Names
pub mod Making
pub mod Meaning
pub mod Queries
pub mod Documents
pub mod Outcomes
pub mod SortMeaning
pub use Rattle.fn_lib.specs as FnLib
pub use Rattle.fn_lib.specs.ItemFunctions
pub use Rattle.operator_values.specs.LazySeq
pub use Rattle.operator_values.specs.NodeWalks
pub use Rattle.operator_values.specs as OperatorValues
pub use Rattle.order_group.specs as OrderGroup
