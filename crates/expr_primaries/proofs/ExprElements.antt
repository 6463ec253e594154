pub mod Ands
pub mod Pours
