pub mod Tokens
pub mod Stands
