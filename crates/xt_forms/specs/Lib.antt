pub mod NamedTexts
pub mod Nest
pub mod Parts
pub mod Plain
pub mod Quiet
pub mod Regular
