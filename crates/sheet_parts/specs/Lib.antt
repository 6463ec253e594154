pub mod Parameters
pub mod Templates
pub mod Functions
pub mod Globals
pub mod Keys
pub mod Outputs
pub mod Tops
