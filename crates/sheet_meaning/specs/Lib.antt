pub mod First
pub mod Meaning
pub mod Outcome
pub mod Rules
