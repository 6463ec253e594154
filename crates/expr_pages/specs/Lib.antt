pub mod Families
pub mod Standing
pub mod ElementDrafts
