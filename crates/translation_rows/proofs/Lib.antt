pub mod Rows
pub mod SheetRows
