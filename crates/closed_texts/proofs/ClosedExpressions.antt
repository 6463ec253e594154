pub mod Expressions
pub mod Pieces
pub mod Templates
