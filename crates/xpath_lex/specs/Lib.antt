pub mod Classes
pub mod Gaps
pub mod Readings
pub mod Runs
pub mod Tokens
