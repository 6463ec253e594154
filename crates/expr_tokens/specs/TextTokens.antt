pub mod Ends
pub mod Lexed
