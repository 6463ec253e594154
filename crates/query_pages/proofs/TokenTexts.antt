pub mod Spaces
pub mod Numbers
pub mod Names
pub mod Keys
pub mod Literals
pub mod Tokens
pub mod Pieces
pub mod Split
