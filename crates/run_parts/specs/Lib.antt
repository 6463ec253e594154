pub mod Further
pub mod Inputs
pub mod Result
pub mod Status
