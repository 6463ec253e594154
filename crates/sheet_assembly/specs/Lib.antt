pub mod Named
pub mod Templates
pub mod Spaces
pub mod Sheets
