pub mod InstrNest
pub mod SheetNest
