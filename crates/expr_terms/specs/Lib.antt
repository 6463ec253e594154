pub mod Productions
pub mod Choices
pub mod Raws
pub mod Nest
