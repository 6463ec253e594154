pub mod Ascii
pub mod Doubles
pub mod Said
pub mod Names
