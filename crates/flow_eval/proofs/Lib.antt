pub mod RowLemmas
pub mod Tuples
pub mod Keys
mod Lets
pub mod FlowStreams
