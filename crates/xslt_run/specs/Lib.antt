pub mod Answers
pub mod Content
pub mod Table
