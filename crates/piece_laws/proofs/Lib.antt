pub mod Names
pub mod Terms
pub mod Literals
pub mod Pieces
pub mod Splitting
