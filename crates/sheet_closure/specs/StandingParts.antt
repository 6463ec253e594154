pub mod Calls
pub mod Patterns
pub mod Values
pub mod Bodies
pub mod Sheets
