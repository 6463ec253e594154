pub mod Fits
pub mod Leaves
pub mod Made
pub mod Operands
