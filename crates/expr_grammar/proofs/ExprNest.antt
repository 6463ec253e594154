pub mod Levels
pub mod Built
pub mod Within
pub mod Counting
pub mod Keeps
