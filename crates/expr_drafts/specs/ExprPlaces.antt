pub mod Families
pub mod Forms
pub mod Roots
