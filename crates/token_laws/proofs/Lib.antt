pub mod WrittenTokens
pub mod FitTokens
pub mod EndedTokens
