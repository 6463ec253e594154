pub mod Words
pub mod Literals
pub mod Terms
pub mod TextTokens
