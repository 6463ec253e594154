pub mod Wanted
pub mod QueryHeads
pub mod QuerySteps
