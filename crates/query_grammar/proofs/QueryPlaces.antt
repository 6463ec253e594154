pub mod Operands
pub mod Apart
pub mod Ends
