pub mod Declarations
pub mod Counts
