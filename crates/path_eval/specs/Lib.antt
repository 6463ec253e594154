pub mod Forms
pub mod Lates
