pub mod Find
pub mod Rows
pub mod Table
