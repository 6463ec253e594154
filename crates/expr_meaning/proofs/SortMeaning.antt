pub mod Sorting
pub mod Carried
