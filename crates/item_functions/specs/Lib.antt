pub mod OnSequences
pub mod OnValues
pub mod Outcomes
pub mod SequenceFunctions
pub mod NumberFunctions
pub mod NodeFunctions
