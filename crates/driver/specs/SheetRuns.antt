pub mod Sheets
pub mod Texts
