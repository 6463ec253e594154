pub mod Forms
pub mod Values
pub mod Instrs
pub mod Sheets
pub mod SheetForms
