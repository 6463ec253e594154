pub mod Calls
pub mod Keys
pub mod Parts
pub mod Checked
pub mod Uses
pub mod SheetNames
