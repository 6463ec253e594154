pub mod Reasons
pub mod Once
pub mod Closed
pub mod GoodStylesheets
pub mod ClosedStylesheets
