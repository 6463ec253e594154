pub mod Patterns
pub mod Findings
