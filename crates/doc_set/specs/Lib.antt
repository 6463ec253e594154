pub mod Fetches
pub mod Sets
pub mod WhiteSpace
