pub mod Places
pub mod Tables
pub mod Rows
pub mod Names
pub mod Behind
