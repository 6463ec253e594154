pub mod Literals
pub mod Lexed
pub mod Types
