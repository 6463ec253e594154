pub mod SequenceFunctions
pub mod NumberFunctions
pub mod NodeFunctions
