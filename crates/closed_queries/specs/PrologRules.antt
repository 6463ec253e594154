pub mod Declarations
pub mod Setters
