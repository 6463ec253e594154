pub mod Places
pub mod Tokens
pub mod Stands
pub mod QueryTokens
