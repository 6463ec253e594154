pub mod WrittenTokens
pub mod FitTokens
