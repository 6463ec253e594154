pub mod Spellings
pub mod Texts
pub mod Written
