pub mod Doubles
pub mod Outputs
pub mod Passing
pub mod First
