pub mod Cardinality
pub mod Positions
pub mod Values
